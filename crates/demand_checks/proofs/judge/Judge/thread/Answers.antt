-- The thread's body is that of the definitions.
use Rattle.std.proofs.Common.{refl}
use Rattle.std.proofs.lemmas.Option.{slice_get_read}
use Rattle.demand_checks.proofs.Pointed.{body_is, widths_in}
use Rattle.demand_checks.proofs.judge.Judge.thread.Goals as goal

pub returns : goal.returns
returns c = (widths_in c.args.self.now.proc.now, body_is c.args.self.now.proc.now c.args.self.now.number c.index.result.now (slice_get_read _ _ c.args.self.now.number c.index.result.now refl c.requires.ready.inside c.index.ensures))
