-- What a table says of two points: the largest d for which a + d <= b, or last + d <= b.
use Rattle.std.specs.Prelude.{ℤ, ◌≤ℤ◌}
use Rattle.order_rules.specs.Form.{Form}
use Rattle.order_rules.specs.Before.{Before}
use Rattle.order_rules.specs.Last.{Ending, Last}

-- Never: for no d. AtLeast d: for d and each smaller one. Vacuous: for every d
pub data Lag : Type 0 where
  Never : Lag
  AtLeast : ℤ → Lag
  Vacuous : Lag

abbrev pub Admits : Lag → ℤ → Type 0
Admits Never d = ⊥
Admits (AtLeast e) d = d ≤ℤ e
Admits Vacuous d = Unit {0}

-- the lag tells a judgement that speaks of a distance: it admits exactly the distances for which the judgement holds
abbrev pub Tells : Lag → (ℤ → Type 0) → Type 0
Tells lag Holds = (d : ℤ) → (Holds d → Admits lag d) × (Admits lag d → Holds d)

-- a table of the order of all points
abbrev pub IsOrderTable : (P : Type 0) (HasForm : P → Form P → Type 0) (Exclusive : P → P → Type 0) → (P → P → Lag)
    → Type 0
IsOrderTable P HasForm Exclusive lag = (a b : P) → Tells (lag a b) (λ d. Before P HasForm Exclusive a d b)

-- a table of the last cycle of a life from a on against all points
abbrev pub IsLastTable : (P : Type 0) (HasForm : P → Form P → Type 0) (Exclusive : P → P → Type 0)
    (HasEnding : Ending P → Type 0) → P → (P → Lag) → Type 0
IsLastTable P HasForm Exclusive HasEnding a lag =
    (b : P) → Tells (lag b) (λ d. Last P HasForm Exclusive HasEnding a d b)
