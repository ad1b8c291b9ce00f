-- The thread's body is that of the definitions.
use Rattle.std.proofs.Common.{refl}
use Rattle.std.proofs.lemmas.Option.{slice_get_read}
use Rattle.demand_checks.proofs.Pointed.{made_judge, widths_in}
use Rattle.demand_checks.proofs.judge.Judge.new.Goals as goal

pub returns-clause-judge : goal.returns-clause-judge
returns-clause-judge c =
    made_judge _ c.index.result.now (slice_get_read _ _ c.args.thread c.index.result.now refl c.requires.inside c.index.ensures) c.requires (c.in_ok-deeds.ensures.numbered (widths_in c.args.proc.now))
    (c.in_ok-deeds.ensures.deeds (widths_in c.args.proc.now)) c.in_ok-deeds.ensures.few
