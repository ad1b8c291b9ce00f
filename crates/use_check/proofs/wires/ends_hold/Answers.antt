-- One end fails or passes.
use Rattle.std.proofs.Common.{sym, arith}
use Rattle.core_term.specs.Process.{life_of}
use Rattle.demand_checks.specs.Judge.{process_at}
use Rattle.use_check.proofs.Ends.{end_fails, end_passes}
use Rattle.use_check.proofs.wires.ends_hold.Goals as goal

pub returns-then-not-end_holds : goal.returns-then-not-end_holds
returns-then-not-end_holds c = λ answers tell.
    end_fails answers c.args.judge.now.deeds.items c.args.user c.args.site (life_of (process_at c.args.judge.now) c.args.port) c.loop-index.index _ c.end.ensures _
    (c.loop-index.invariant answers tell) (sym (c.if-not-end_holds.ensures answers tell))

pub loop-index-preserved : goal.loop-index-preserved
loop-index-preserved c = λ answers tell.
    end_passes answers c.args.judge.now.deeds.items c.args.user c.args.site (life_of (process_at c.args.judge.now) c.args.port) c.loop-index.index _ c.end.ensures _
    (c.loop-index.invariant answers tell) _ (omega arith) (sym (c.if-not-end_holds.ensures answers tell))
