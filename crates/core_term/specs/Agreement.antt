-- When two runs of a process agree in a cycle: `valid` and `ack` of every port, all registers, and the data of each
-- sent port that is offered or in the life of an exchange.
use Rattle.std.specs.Prelude.{ℕ, ◌≡◌, ◌⊎◌, true, false, List}
use Rattle.core_term.specs.Process.{LifeEnd, Process, life_of, is_received}
use Rattle.core_term.specs.Wires.{Wires, Exchange, InLife}

-- the data of the port m counts in cycle t
abbrev pub Shows : Wires → List LifeEnd → ℕ → ℕ → Type 0
Shows wires life m t = (wires.valid m t ≡ true) ⊎ ((start : ℕ) × Exchange wires m start × InLife wires life start t)

pub record AgreesAt (p : Process) (wires other : Wires) (registers registers' : ℕ → ℕ → ℕ) (t : ℕ) : Type 0 where
  pub valid : (m : ℕ) → wires.valid m t ≡ other.valid m t
  pub ack : (m : ℕ) → wires.ack m t ≡ other.ack m t
  pub registers_agree : (r : ℕ) → registers t r ≡ registers' t r
  pub data_at : (m : ℕ) → is_received p m ≡ false → Shows wires (life_of p m) m t
      → wires.data_at m t ≡ other.data_at m t
