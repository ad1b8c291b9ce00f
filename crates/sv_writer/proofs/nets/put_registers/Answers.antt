-- A put that fails does so inside the line of one register.
use Rattle.std.proofs.Common.{arith}
use Rattle.sv_tree.specs.Text.{register_line}
use Rattle.sv_writer.proofs.Lines.{line_failed}
use Rattle.sv_writer.proofs.nets.put_registers.Goals as goal

pub returns-in_err-put_register : goal.returns-in_err-put_register
returns-in_err-put_register g c =
    let loop = c.loop-register in
    let items = c.regs-register-items in
    rw (← items.ensures.regs) (line_failed register_line items.result.now loop.register-index c.register-item.result _ (g.W.Sink.held loop.out) _ _ _ _ _ _ (omega arith) c.register-item.is loop.invariant c.from_residual.ensures.0 c.in_err-put_register.ensures)
