-- The first broken promise of a run, on the wires alone: the first cycle in which a received port's promise fails, and
-- the first such port there.
use Rattle.std.specs.Prelude.{ℕ, ◌≡◌, ◌<◌, true}
use Rattle.core_term.specs.Process.{Process, life_of, is_received}
use Rattle.core_term.specs.Wires.{Wires, IsKept}

-- the promises of all received ports are kept up to cycle t
abbrev pub PromisesKept : Process → Wires → ℕ → Type 0
PromisesKept p wires t = (m : ℕ) → is_received p m ≡ true → IsKept wires (life_of p m) m t

pub record IsFirstBreach (p : Process) (wires : Wires) (cycle port : ℕ) : Type 0 where
  pub within : cycle < wires.count
  pub before : (t : ℕ) → t < cycle → PromisesKept p wires t
  pub received : is_received p port ≡ true
  pub broken : IsKept wires (life_of p port) port cycle → ⊥
  pub first : (m : ℕ) → m < port → is_received p m ≡ true → IsKept wires (life_of p m) m cycle
