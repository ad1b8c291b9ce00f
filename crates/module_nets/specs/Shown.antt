-- What a signal shows in a cycle of a finished module.
use Rattle.std.specs.Prelude.{ℕ, ◌≡◌, ◌<◌}
use Rattle.core_term.specs.Inputs.{Inputs}
use Rattle.sv_tree.specs.declared.tree.SvOp.{SvOp}
use Rattle.sv_tree.specs.declared.tree.SvOperand.{SvOperand}
use Rattle.sv_tree.specs.Module.{Module}
use Rattle.sv_tree.specs.WellFormed.{IsWellFormed}
use Rattle.sv_tree.specs.Fitting.{InputsFit}
use Rattle.sv_tree.specs.Clocked.{settled_value, registers_at, net_values, operation_value}
use Rattle.module_nets.specs.declared.signal.Signal.{Signal}
use Rattle.module_nets.specs.Netlist.{Extends}

-- a cycle of a module over what comes in
pub record Moment : Type 0 where
  pub tree : Module
  pub inputs : Inputs
  pub cycle : ℕ

-- a cycle of the inputs, of a well-formed module that extends the netlist, over inputs that fit its ports
pub record IsMomentOf (old : Module) (now : Moment) : Type 0 where
  pub extends : Extends old now.tree
  pub well_formed : IsWellFormed now.tree
  pub fit : InputsFit now.tree now.inputs
  pub within : now.cycle < now.inputs.count

abbrev pub operand_shown : Moment → SvOperand → ℕ
operand_shown now operand =
    settled_value now.tree now.inputs now.cycle (registers_at now.tree now.inputs now.cycle) operand

abbrev pub shown : Moment → Signal → ℕ
shown now signal = operand_shown now signal.operand

-- in each such cycle the signal shows this value
abbrev pub Shows : Module → Signal → (Moment → ℕ) → Type 0
Shows old signal value = (now : Moment) → IsMomentOf old now → shown now signal ≡ value now

-- what an operator gives a net of `width` bits, once all nets are valued
abbrev pub operation_shown : Moment → (width : ℕ) → SvOp → ℕ
operation_shown now width op =
    operation_value now.tree now.inputs now.cycle (registers_at now.tree now.inputs now.cycle)
    (net_values now.tree now.inputs now.cycle (registers_at now.tree now.inputs now.cycle))
    width
    op
