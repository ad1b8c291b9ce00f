-- The lines of the clock's block for any list of registers. The emitted module has them where that list is not empty.
use Rattle.std.specs.Prelude.{ℕ, List, ◌++◌, flat_map, zip}
use Rattle.sv_tree.specs.declared.tree.SvReg.{SvReg}
use Rattle.sv_tree.specs.Module.{Module}
use Rattle.sv_tree.specs.Text.{clock_opening_lines, clock_else_line, clock_closing_lines, reset_line, next_line}

-- the resets of these registers, and their next values
abbrev pub block_lines : Module → List SvReg → List ℕ
block_lines m regs =
    clock_opening_lines ++ (flat_map reset_line regs ++ (clock_else_line ++ (flat_map (next_line m) (zip regs m.nexts) ++ clock_closing_lines)))
