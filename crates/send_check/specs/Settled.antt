-- The demands of a rule on two sites of a thread are settled: one fails, or all hold.
use Rattle.std.specs.Prelude.{ℕ, ◌≡◌, ◌<◌, ◌⊎◌, Bool, true, false, List}
use Rattle.core_term.specs.declared.rules.Rule.{Rule}
use Rattle.core_term.specs.declared.rules.Rule.TheVariants.{V2, V3, V4, V5, V6, V7, V8}
use Rattle.core_term.specs.Lists.{Has}
use Rattle.core_term.specs.Rules.{Claim, Holds, Demands}
use Rattle.demand_checks.specs.declared.judge.Judge.{Judge}
use Rattle.demand_checks.specs.declared.place.Pair.{Pair}
use Rattle.demand_checks.specs.Found.{Fails}
use Rattle.demand_checks.specs.Judge.{process_at, body_at}

-- the rules on two acts that do the same
abbrev pub IsOwn : Rule → Type 0
IsOwn V2 = ⊥
IsOwn V3 = Unit {0}
IsOwn V4 = Unit {0}
IsOwn V5 = Unit {0}
IsOwn V6 = ⊥
IsOwn V7 = ⊥
IsOwn V8 = ⊥

abbrev pub Settles : Judge → Rule → ℕ → ℕ → Bool → Type 0
Settles judge rule first second true = Fails (process_at judge) judge.number (body_at judge) rule first second
Settles judge rule first second false =
    (claim : Claim) → Demands (process_at judge) judge.number (body_at judge) rule first second claim
    → Holds (process_at judge) (body_at judge) claim

-- the pair of sites comes before these two
abbrev pub IsBefore : (first second q r : ℕ) → Type 0
IsBefore first second q r = (first < q) ⊎ ((first ≡ q) × (second < r))

-- the records of a rule with sites before these two
pub record AreFoundTo (judge : Judge) (rule : Rule) (q r : ℕ) (pairs : List Pair) : Type 0 where
  pub sound : (one : Pair) → Has pairs one
      → Fails (process_at judge) judge.number (body_at judge) rule one.first one.second
  pub whole : (first second : ℕ) → IsBefore first second q r → (claim : Claim)
      → Demands (process_at judge) judge.number (body_at judge) rule first second claim
      → Holds (process_at judge) (body_at judge) claim ⊎ Has pairs (record { first = first; second = second })
