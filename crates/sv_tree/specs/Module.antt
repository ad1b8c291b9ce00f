-- An emitted module, as contracts see an `SvModule`: plain data, in which a name is the list of its bytes and a `Bits`
-- is its width and value. Ports, registers and nets are named by their numbers in the lists.
use Rattle.std.specs.Prelude.{ℕ, List}
use Rattle.sv_tree.specs.declared.tree.SvPort.{SvPort}
use Rattle.sv_tree.specs.declared.tree.SvReg.{SvReg}
use Rattle.sv_tree.specs.declared.tree.SvNet.{SvNet}
use Rattle.sv_tree.specs.declared.tree.SvOut.{SvOut}
use Rattle.sv_tree.specs.declared.tree.SvOperand.{SvOperand}

-- the process of which it is written; its message ports; its registers; its nets in the order in which they are valued;
-- what each port is given; and what each register takes at the end of a cycle
pub record Module : Type 0 where
  pub proc : List ℕ
  pub ports : List SvPort
  pub regs : List SvReg
  pub nets : List SvNet
  pub outs : List SvOut
  pub nexts : List SvOperand
