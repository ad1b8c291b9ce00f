-- That the latest exchange of a port is enough to tell a broken promise, and whether a port shows its data.
use Rattle.std.specs.Prelude.{ℕ, ◌≡◌, ◌<◌, ◌==◌, ◌&&◌, ◌||◌, not, Bool, true, false, List}
use Rattle.core_term.specs.Process.{LifeEnd}
use Rattle.core_term.specs.Wires.{Wires, Exchange, InLife, IsKept}
use Rattle.core_term.specs.LogText.{exchanged, is_shown}
use Rattle.exchanges.specs.declared.latest.Latest.{Latest}
use Rattle.exchanges.specs.Next.{IsLatest}

-- the data of this cycle is not that of the latest exchange, which lives
abbrev pub differs : Latest → (number : ℕ) → Bool
differs latest number = latest.lives && not (latest.number.value == number)

-- the exchange of an earlier cycle, whose life has the cycle n, had other data
abbrev pub BrokenBy : Wires → List LifeEnd → (m n start : ℕ) → Type 0
BrokenBy wires life m n start = (start < n) × Exchange wires m start × InLife wires life start n × (wires.data_at m n ≡ wires.data_at m start → ⊥)

-- Where the promise of the port m was kept before the cycle n, it is kept in n exactly where the data is that of the latest
-- exchange or that one lives no more; else an earlier exchange had other data.
abbrev pub PromiseIsTold : Type 0
PromiseIsTold = (wires : Wires) (life : List LifeEnd) (m n : ℕ) (latest : Latest) → n < wires.count → IsLatest (exchanged wires) life m (wires.data_at m) n latest → ((t : ℕ) → t < n → IsKept wires life m t)
    → (differs latest (wires.data_at m n) ≡ false → IsKept wires life m n) × (differs latest (wires.data_at m n) ≡ true → (start : ℕ) × BrokenBy wires life m n start)

-- A port is offered or in the life of an exchange exactly where it is valid or its latest exchange before lives.
abbrev pub ShownIsTold : Type 0
ShownIsTold = (wires : Wires) (life : List LifeEnd) (m n : ℕ) (data_at : ℕ → ℕ) (latest : Latest) → IsLatest (exchanged wires) life m data_at n latest → is_shown wires life m n ≡ (wires.valid m n || latest.lives)
