-- One process more has its module.
use Rattle.std.proofs.Common.{arith}
use Rattle.tool_stages.proofs.Described.{module_more}
use Rattle.tool_commands.proofs.modules.modules_of.Goals as goal

pub loop-proc-preserved : goal.loop-proc-preserved
loop-proc-preserved c =
    let built = c.in_ok-build.ensures in
    rw c.in_ok-push.ensures.items
    (module_more c.args.procs.now c.loop-proc.proc-index c.proc-item.result _ _ (omega arith) c.proc-item.is c.loop-proc.invariant
    (record { well_formed = built.well_formed; parts = built.parts; means = built.means; agrees = built.agrees; logs = built.logs; bits = built.bits }))
