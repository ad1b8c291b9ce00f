-- What is seen of a run: the wires of all ports, and what the registers of the source show.
use Rattle.std.specs.Prelude.{ℕ}
use Rattle.core_term.specs.Wires.{Wires}

pub record Shown : Type 0 where
  pub wires : Wires
  pub registers : (cycle register : ℕ) → ℕ
