-- The latest exchange of a port, from cycle to cycle, and what of the cycles so far it stands for.
--
-- Nothing here knows of a process. `exchange m t` tells whether there is an exchange of the port m in the cycle t, and
-- `data_at t` what data the port has then; both may be those of any run.
use Rattle.std.specs.Prelude.{ℕ, ◌≡◌, ◌+◌, ◌-◌, ◌<◌, ◌^◌, ◌&&◌, not, if◌then◌else◌, min, nat_lt, Bool, true, false, List, [], ◌∷◌, slice_index_or, Option, Some, None}
use Rattle.anvil_bits.specs.Number.{Number}
use Rattle.core_term.specs.Lists.{Has}
use Rattle.core_term.specs.Process.{LifeEnd, Cycles, Until}
use Rattle.core_term.specs.History.{greatest}
use Rattle.core_term.specs.Outputs.{alive}
use Rattle.exchanges.specs.declared.latest.Latest.{Latest}

-- What is kept before the cycle n.

-- as far as ages are counted
abbrev pub oldest : ℕ
oldest = 2 ^ 32 - 1

-- the latest cycle before n with an exchange
abbrev pub latest_before : (ℕ → Bool) → ℕ → Option ℕ
latest_before exchange n = greatest (λ t. if exchange t then Some t else None) n

-- of the exchange in that cycle: whether its life has the cycle n, its age, and its data
abbrev pub LatestIs : (ℕ → ℕ → Bool) → List LifeEnd → (ℕ → ℕ) → (n : ℕ) → Option ℕ → Latest → Type 0
LatestIs exchange life data_at n None latest = latest.lives ≡ false
LatestIs exchange life data_at n (Some t) latest =
    (latest.lives ≡ alive exchange life t n) × (latest.age ≡ min (n - (t + 1)) oldest) × (latest.number.value ≡ data_at t)

abbrev pub IsLatest : (ℕ → ℕ → Bool) → List LifeEnd → (m : ℕ) → (ℕ → ℕ) → (n : ℕ) → Latest → Type 0
IsLatest exchange life m data_at n latest = LatestIs exchange life data_at n (latest_before (exchange m) n) latest

-- One cycle on. `exchanged` tells of each port whether there was an exchange in the cycle.

-- every end that is a number is one of the code
abbrev pub Bounded : List LifeEnd → Type 0
Bounded life = (count : ℕ) → Has life (Cycles count) → count < 2 ^ 16

-- the life of an exchange of so many cycles ago goes on after the cycle, by one of its ends
abbrev pub end_holds : List Bool → (age : ℕ) → LifeEnd → Bool
end_holds exchanged age (Cycles count) = nat_lt (age + 1) count
end_holds exchanged age (Until m) = not (slice_index_or exchanged m false)

abbrev pub ends_hold : List Bool → (age : ℕ) → List LifeEnd → Bool
ends_hold exchanged age [] = true
ends_hold exchanged age (end ∷ more) = end_holds exchanged age end && ends_hold exchanged age more

-- in the cycle there was an exchange of the port with the number, or there was none
abbrev pub next : List Bool → List LifeEnd → (now : Bool) → Number → Latest → Latest
next exchanged life true number latest = record { lives = ends_hold exchanged 0 life; age = 0; number = number }
next exchanged life false number latest =
    record { lives = latest.lives && ends_hold exchanged (min (latest.age + 1) oldest) life; age = min (latest.age + 1) oldest; number = latest.number }

-- What is kept is of the run before a cycle, and so one cycle on it is of the run before the next.
abbrev pub LatestGoesOn : Type 0
LatestGoesOn = (exchange : ℕ → ℕ → Bool) (life : List LifeEnd) (m n : ℕ) (data_at : ℕ → ℕ) (exchanged : List Bool) (number : Number) (latest : Latest)
    → Bounded life → ((port : ℕ) → slice_index_or exchanged port false ≡ exchange port n) → (exchange m n ≡ true → number.value ≡ data_at n)
    → IsLatest exchange life m data_at n latest → IsLatest exchange life m data_at (n + 1) (next exchanged life (exchange m n) number latest)
