-- Writes of a register in the order in which a later one wins, and bits of which any may be 1.
use Rattle.std.specs.Prelude.{◌≡◌, ℕ, Bool, List, slice_index_or}
use Rattle.sv_tree.specs.Module.{Module}
use Rattle.module_nets.specs.declared.signal.Signal.{Signal}
use Rattle.module_nets.specs.Netlist.{Stands}
use Rattle.module_nets.specs.Shown.{Moment, shown}
use Rattle.module_nets.specs.Signals.{no_signal, signal_at}
use Rattle.module_nets.specs.Bits.{IsBit, told}
use Rattle.pulse_nets.specs.declared.writes.Write.{Write}

abbrev pub write_at : List Write → ℕ → Write
write_at writes place = slice_index_or writes place record { begun = no_signal; value = no_signal }

abbrev pub begun_told : Moment → List Write → ℕ → Bool
begun_told now writes place = told now (write_at writes place).begun

abbrev pub value_shown : Moment → List Write → ℕ → ℕ
value_shown now writes place = shown now (write_at writes place).value

-- the same in each cycle, since one is looked at
abbrev pub bits_told : Moment → List Signal → (place cycle : ℕ) → Bool
bits_told now bits place cycle = told now (signal_at bits place)

pub record WriteStands (old : Module) (width : ℕ) (write : Write) : Type 0 where
  pub begun : IsBit old write.begun
  pub value : Stands old write.value
  pub wide : write.value.width ≡ width
