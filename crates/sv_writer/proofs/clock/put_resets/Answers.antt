-- A put that fails does so inside the reset of one register.
use Rattle.std.proofs.Common.{arith}
use Rattle.sv_tree.specs.Text.{reset_line}
use Rattle.sv_writer.proofs.Lines.{line_failed}
use Rattle.sv_writer.proofs.clock.put_resets.Goals as goal

pub returns-in_err-put_set : goal.returns-in_err-put_set
returns-in_err-put_set g c =
    let loop = c.loop-register in
    let items = c.regs-register-items in
    rw (← items.ensures.regs) (line_failed reset_line items.result.now loop.register-index c.register-item.result _ (g.W.Sink.held loop.out) _ _ _ _ _ _ (omega arith) c.register-item.is loop.invariant c.from_residual.ensures.0 c.in_err-put_set.ensures)
