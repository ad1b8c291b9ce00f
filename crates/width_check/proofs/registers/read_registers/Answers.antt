-- One register more, and one that fails.
use Rattle.std.proofs.Common.{◌+◌, drop}
use Rattle.width_check.proofs.RegisterSteps.{past, one_fails, next}
use Rattle.width_check.proofs.registers.read_registers.Goals as goal

pub returns-in-Err : goal.returns-in-Err
returns-in-Err c =
    let all = c.args.registers.now in
    let at = next all c.loop-register.table c.loop-register.register-index c.register-item.result c.loop-register-test.true c.register-item.is c.loop-register.invariant in
    one_fails all c.loop-register.table c.register-item.result (drop (c.loop-register.register-index + 1) all) c.in-Err.fault at c.in-Err.ensures

pub loop-register-preserved : goal.loop-register-preserved
loop-register-preserved c =
    let all = c.args.registers.now in
    let at = next all c.loop-register.table c.loop-register.register-index c.register-item.result c.loop-register-test.true c.register-item.is c.loop-register.invariant in
    past all c.loop-register.table c.in-Ok-with.more c.register-item.result c.in-Ok.read (drop (c.loop-register.register-index + 1) all) at
    c.in-Ok.ensures.0 c.in-Ok.ensures.1 c.in-Ok.ensures.2 c.in-Ok-with.ensures
