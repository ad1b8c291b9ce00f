-- The texts of the modules so far were put whole.
use Rattle.std.proofs.Common.{take}
use Rattle.sv_writer.proofs.Lines.{LinesPut}
use Rattle.sv_tree.specs.Text.{modules_text}
use Rattle.tool_commands.proofs.compile.put_modules.Given as goal

abbrev pub invariant-loop-module : goal.invariant-loop-module
invariant-loop-module g l = LinesPut (g.O.Sink.held l.fn.out) (g.O.Sink.held l.out) (g.O.Sink.faults l.fn.out) (g.O.Sink.faults l.out) (modules_text (take l.module-index l.modules))
