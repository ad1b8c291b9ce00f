-- A put that fails does so inside the text of one module.
use Rattle.std.proofs.Common.{arith}
use Rattle.sv_tree.specs.Text.{module_text}
use Rattle.sv_writer.proofs.Lines.{line_failed}
use Rattle.tool_commands.proofs.compile.put_modules.Goals as goal

pub returns-in_err-write_module : goal.returns-in_err-write_module
returns-in_err-write_module g c =
    let loop = c.loop-module in
    line_failed module_text c.args.modules.now loop.module-index c.module-item.result _ (g.O.Sink.held loop.out) _ _ _ _ _ _ (omega arith) c.module-item.is loop.invariant c.from_residual.ensures.0 c.in_err-write_module.ensures
