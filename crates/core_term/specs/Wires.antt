-- Wires, exchanges, lives and promises. Nothing here speaks of a process: the wires may be those of any run.
--
-- An exchange is a cycle in which `valid` and `ack` are both 1. Its life is the cycles from its own on that lie within
-- every end of the life of the message: the cycle of an ending exchange is still in the life.
use Rattle.std.specs.Prelude.{ℕ, ◌≡◌, ◌+◌, ◌<◌, ◌≤◌, Bool, true, List, [], ◌∷◌}
use Rattle.core_term.specs.Process.{LifeEnd, Cycles, Until}

-- the wires of all ports, by port and cycle, for the cycles 0 to count - 1
pub record Wires : Type 0 where
  pub count : ℕ
  pub valid : (port cycle : ℕ) → Bool
  pub ack : (port cycle : ℕ) → Bool
  pub data_at : (port cycle : ℕ) → ℕ

-- an exchange of the port m in the cycle start
abbrev pub Exchange : Wires → ℕ → ℕ → Type 0
Exchange wires m start = (start < wires.count) × (wires.valid m start ≡ true) × (wires.ack m start ≡ true)

-- the cycle lies within one end of a life that begins at start: so many cycles, or up to the next exchange of the port
-- m
abbrev pub LiesWithin : Wires → ℕ → ℕ → LifeEnd → Type 0
LiesWithin wires start cycle (Cycles k) = cycle < start + k
LiesWithin wires start cycle (Until m) = (c : ℕ) → start ≤ c → c < cycle → Exchange wires m c → ⊥

abbrev pub WithinAll : Wires → ℕ → ℕ → List LifeEnd → Type 0
WithinAll wires start cycle [] = Unit {0}
WithinAll wires start cycle (e ∷ more) = LiesWithin wires start cycle e × WithinAll wires start cycle more

-- the cycle is in the life of an exchange at start
abbrev pub InLife : Wires → List LifeEnd → ℕ → ℕ → Type 0
InLife wires life start cycle = (start ≤ cycle) × WithinAll wires start cycle life

-- the promise of the port m is kept up to the cycle last: in the life of each exchange, each cycle up to last has its
-- data
abbrev pub IsKept : Wires → List LifeEnd → ℕ → ℕ → Type 0
IsKept wires life m last =
    (start cycle : ℕ) → Exchange wires m start → cycle ≤ last → InLife wires life start cycle
    → wires.data_at m cycle ≡ wires.data_at m start
