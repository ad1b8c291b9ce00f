-- The order law and the last law of nodes with times, and that each graph has its tables.
--
-- The lemmas behind the first two hold over any type of points, with relations in the place of these functions.
use Rattle.std.specs.Prelude.{◌≡◌, ℕ, ◌+◌, ◌<◌, ◌≤◌, ◌⊎◌, ℤ, pos, ◌+ℤ◌, ◌≤ℤ◌, ◌<ℤ◌, Bool, true, List, Option, Some}
use Rattle.order_rules.specs.Form.{Form}
use Rattle.order_rules.specs.Before.{Before}
use Rattle.order_rules.specs.Last.{Ending, Within, At, Last}
use Rattle.order_rules.specs.Lag.{Lag}
use Rattle.order_rules.specs.Entry.{entry, IsEarlier}
use Rattle.order_rules.specs.LastEntry.{IsListed, last_entry}
use Rattle.order_rules.specs.Timed.{Timed}
use Rattle.order_rules.specs.Laws.{HasForm, Apart}

-- when each node occurs, which are lost, and which may stand on the left keep the local rules of all forms
abbrev pub KeepRules : (form : ℕ → Form ℕ) (apart : ℕ → ℕ → Bool) (count : ℕ) (left : ℕ → Bool) (when : ℕ → Option ℕ)
    (lost : ℕ → Bool) → Type 0
KeepRules form apart count left when lost =
    Timed ℕ (HasForm form) (Apart apart) count (λ a. left a ≡ true) (λ a t. when a ≡ Some t) (λ a. lost a ≡ true)

-- The order law. Where a + d <= b is derived and b occurs at t, with t - d within the list, a is lost, or it has
-- occurred at t - d or before.
abbrev pub OrderLaw : Type 0
OrderLaw =
    (form : ℕ → Form ℕ) (apart : ℕ → ℕ → Bool) (count : ℕ) (left : ℕ → Bool) (when : ℕ → Option ℕ) (lost : ℕ → Bool)
    → KeepRules form apart count left when lost
    → (a b : ℕ) (d : ℤ) → Before ℕ (HasForm form) (Apart apart) a d b → left a ≡ true → (t : ℕ) → when b ≡ Some t
    → pos t <ℤ (pos count +ℤ d)
    → (lost a ≡ true) ⊎ ((s : ℕ) × ((pos s +ℤ d) ≤ℤ pos t) × (when a ≡ Some s))

-- each end of a life from s on bounds its last cycle: over s l says that no cycle after l is in it
pub record Ended (ends : List (Ending ℕ)) (when : ℕ → Option ℕ) (over : ℕ → ℕ → Bool) : Type 0 where
  pub lasts : IsListed ends (Within 0) → ⊥
  pub within : (n : ℕ) → IsListed ends (Within (n + 1)) → (s : ℕ) → over s (s + n) ≡ true
  pub at : (b : ℕ) → IsListed ends (At b) → (s t : ℕ) → when b ≡ Some t → s ≤ t → over s t ≡ true

-- The last law. Where last + d <= b is derived for a life from a on, a is lost, or it has occurred and its life is over
-- by t - d.
abbrev pub LastLaw : Type 0
LastLaw =
    (form : ℕ → Form ℕ) (apart : ℕ → ℕ → Bool) (count : ℕ) (left : ℕ → Bool) (when : ℕ → Option ℕ) (lost : ℕ → Bool)
    → KeepRules form apart count left when lost
    → (ends : List (Ending ℕ)) (over : ℕ → ℕ → Bool) → Ended ends when over → (a b : ℕ) (d : ℤ)
    → Last ℕ (HasForm form) (Apart apart) (IsListed ends) a d b → left a ≡ true → (t : ℕ) → when b ≡ Some t
    → t < count → pos t <ℤ (pos count +ℤ d)
    → (lost a ≡ true) ⊎ ((s last : ℕ) × (when a ≡ Some s) × (over s last ≡ true) × ((pos last +ℤ d) ≤ℤ pos t))

-- Where predecessors are earlier nodes, there is a table that is closed under the equations of its entries, and so is
-- one of the last cycle of a life.
abbrev pub TablesExist : Type 0
TablesExist =
    (form : ℕ → Form ℕ) (apart : ℕ → ℕ → Bool) → ((b : ℕ) → IsEarlier b (form b))
    → (lag : ℕ → ℕ → Lag) × ((a b : ℕ) → lag a b ≡ entry form apart lag a b)

abbrev pub LastTablesExist : Type 0
LastTablesExist =
    (form : ℕ → Form ℕ) (apart : ℕ → ℕ → Bool) → ((b : ℕ) → IsEarlier b (form b))
    → (lag : ℕ → ℕ → Lag) (ends : List (Ending ℕ)) (a : ℕ)
    → (last : ℕ → Lag) × ((b : ℕ) → last b ≡ last_entry form apart lag ends a last b)
