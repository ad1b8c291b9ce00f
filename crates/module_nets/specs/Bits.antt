-- Signals of one bit, which tell whether something is so.
use Rattle.std.specs.Prelude.{◌≡◌, ◌==◌, if◌then◌else◌, not, Bool}
use Rattle.sv_tree.specs.Module.{Module}
use Rattle.module_nets.specs.declared.signal.Signal.{Signal}
use Rattle.module_nets.specs.Netlist.{Stands}
use Rattle.module_nets.specs.Shown.{Moment, IsMomentOf, shown}

-- a signal of one bit that stands
pub record IsBit (old : Module) (signal : Signal) : Type 0 where
  pub stands : Stands old signal
  pub one_bit : signal.width ≡ 1

abbrev pub told : Moment → Signal → Bool
told now signal = shown now signal == 1

-- in each cycle the signal tells this
abbrev pub Tells : Module → Signal → (Moment → Bool) → Type 0
Tells old signal fact = (now : Moment) → IsMomentOf old now → told now signal ≡ fact now

abbrev pub xor : Bool → Bool → Bool
xor left right = if left then not right else right
