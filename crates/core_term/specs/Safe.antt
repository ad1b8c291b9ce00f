-- A safe run of a process, in six parts. It speaks of a run and of the wires alone, never of points, and has no premise
-- on the partners: they may keep their promises or not.
use Rattle.std.specs.Prelude.{ℕ, ◌≡◌, ◌-◌, ◌<◌, ◌≤◌, Bool, false}
use Rattle.core_term.specs.Inputs.{Inputs}
use Rattle.core_term.specs.Term.{head}
use Rattle.core_term.specs.Value.{Value, Wire, Register, Choice}
use Rattle.core_term.specs.Acts.{OnPort}
use Rattle.core_term.specs.Process.{Process, Thread, IsThread, life_of, is_received}
use Rattle.core_term.specs.Wires.{Exchange, InLife, IsKept}
use Rattle.core_term.specs.History.{IsHistory}
use Rattle.core_term.specs.Outputs.{wires}
use Rattle.core_term.specs.Log.{Begun, EndsIn, IsMade, IsRead, IsDecided, IsSet, UsedIn}

-- 1. Each variable that is read was made in that turn, in that cycle or before.
abbrev pub MadeBeforeRead : Process → Inputs → (ℕ → ℕ → ℕ) → Type 0
MadeBeforeRead p inputs registers =
    (j : ℕ) (thread : Thread) → IsThread p.threads j thread → (turn site variable cycle : ℕ)
    → IsRead inputs registers thread.body turn site variable cycle
    → (e : ℕ) × (v : Value) × IsMade inputs registers thread.body turn variable e v × (e ≤ cycle)

-- 2. Each use of a received value lies in the life of its exchange.
abbrev pub UsedWithinLife : Process → Inputs → (ℕ → ℕ → ℕ) → Type 0
UsedWithinLife p inputs registers =
    (j turn site c m t : ℕ) → UsedIn p inputs registers j turn site c (Wire m t)
    → InLife (wires p inputs registers) (life_of p m) t c

-- 3. No register is set between a read of it and a use of what was read.
abbrev pub RegisterUnchanged : Process → Inputs → (ℕ → ℕ → ℕ) → Type 0
RegisterUnchanged p inputs registers =
    (j turn site c r t : ℕ) → UsedIn p inputs registers j turn site c (Register r t)
    → (i : ℕ) (thread : Thread) → IsThread p.threads i thread → (turn' site' cycle : ℕ) (v : Value)
    → IsSet inputs registers thread.body r turn' site' cycle v → t ≤ cycle → cycle < c → ⊥

-- 4. No `if` decides again while its side is in use.
abbrev pub SideUnchanged : Process → Inputs → (ℕ → ℕ → ℕ) → Type 0
SideUnchanged p inputs registers =
    (j turn site c q t : ℕ) (u : UsedIn p inputs registers j turn site c (Choice q t))
    → (turn' cycle : ℕ) (side : Bool) → IsDecided inputs registers u.thread.body turn' q cycle side → t < cycle
    → cycle ≤ c → ⊥

-- 5. The promise of each sent port is kept up to the last cycle of the list.
abbrev pub OwnPromisesKept : Process → Inputs → (ℕ → ℕ → ℕ) → Type 0
OwnPromisesKept p inputs registers =
    (m : ℕ) → is_received p m ≡ false → IsKept (wires p inputs registers) (life_of p m) m (inputs.count - 1)

-- 6. Each exchange ends exactly one act, and at most one set of a register begins in a cycle.
pub record OneEach (p : Process) (inputs : Inputs) (registers : ℕ → ℕ → ℕ) : Type 0 where
  pub exchanged : (m t : ℕ) → Exchange (wires p inputs registers) m t
      → (j : ℕ) × (thread : Thread) × (turn site : ℕ) × IsThread p.threads j thread
      × ((b : Begun inputs registers thread.body turn site) × OnPort (head b.term) m × EndsIn b t)
  pub once : (i j : ℕ) (thread other : Thread) → IsThread p.threads i thread → IsThread p.threads j other
      → (turn site turn' site' m t : ℕ) (b : Begun inputs registers thread.body turn site)
      (b' : Begun inputs registers other.body turn' site')
      → OnPort (head b.term) m → OnPort (head b'.term) m → EndsIn b t → EndsIn b' t
      → (i ≡ j) × (turn ≡ turn') × (site ≡ site')
  pub one_set : (i j : ℕ) (thread other : Thread) → IsThread p.threads i thread → IsThread p.threads j other
      → (turn site turn' site' r cycle : ℕ) (v w : Value)
      → IsSet inputs registers thread.body r turn site cycle v
      → IsSet inputs registers other.body r turn' site' cycle w → (i ≡ j) × (turn ≡ turn') × (site ≡ site')

pub record IsSafe (p : Process) (inputs : Inputs) (registers : ℕ → ℕ → ℕ) : Type 0 where
  pub made_before_read : MadeBeforeRead p inputs registers
  pub used_within_life : UsedWithinLife p inputs registers
  pub register_unchanged : RegisterUnchanged p inputs registers
  pub side_unchanged : SideUnchanged p inputs registers
  pub own_promises_kept : OwnPromisesKept p inputs registers
  pub one_each : OneEach p inputs registers

-- for every input list, so for every number of turns and every timing of every partner
abbrev pub RunsSafely : Process → Type 0
RunsSafely p = (inputs : Inputs) (registers : ℕ → ℕ → ℕ) → IsHistory p inputs registers → IsSafe p inputs registers
