-- Where there is a register, the clock's lines are the block.
use Rattle.std.proofs.Common.{◌≡◌, ◌==◌, List, [], ◌∷◌, length, false, refl}
use Rattle.sv_tree.specs.declared.tree.SvReg.{SvReg}
use Rattle.sv_tree.specs.Module.{Module}
use Rattle.sv_tree.specs.Text.{clock_lines}
use Rattle.sv_writer.specs.Block.{block_lines}
use Rattle.sv_writer.proofs.clock.put_clock.Goals as goal

lines_of_some : (m : Module) (regs : List SvReg) → false ≡ (length regs == 0) → clock_lines m regs ≡ block_lines m regs
lines_of_some m [] is_some = cc
lines_of_some m (r ∷ regs) is_some = refl

pub returns : goal.returns
returns g c =
    let is_some : false ≡ (length c.args.module.now.regs == 0) = rw c.regs.ensures.regs at c.if-is_empty.ensures in
    rw (lines_of_some c.args.module.now c.args.module.now.regs is_some) c.put_block.ensures
