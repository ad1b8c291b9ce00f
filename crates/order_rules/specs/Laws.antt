-- What is proved of the order over the nodes 0, 1, 2 and so on of a graph, each of which comes from earlier nodes.
use Rattle.std.specs.Prelude.{ℕ, ℤ, ◌≡◌, ◌⊎◌, Bool, true, List}
use Rattle.order_rules.specs.Form.{Form}
use Rattle.order_rules.specs.Before.{Before}
use Rattle.order_rules.specs.Last.{Ending}
use Rattle.order_rules.specs.Lag.{Lag, IsOrderTable, IsLastTable}
use Rattle.order_rules.specs.Entry.{entry, IsEarlier}
use Rattle.order_rules.specs.LastEntry.{IsListed, last_entry}

-- forms and exclusion of nodes, as relations
abbrev pub HasForm : (ℕ → Form ℕ) → ℕ → Form ℕ → Type 0
HasForm form b f = form b ≡ f

abbrev pub Apart : (ℕ → ℕ → Bool) → ℕ → ℕ → Type 0
Apart apart a b = apart a b ≡ true

-- A table that is closed under the equations of its entries tells the order of all nodes.
abbrev pub ClosedTableTells : Type 0
ClosedTableTells =
    (form : ℕ → Form ℕ) (apart : ℕ → ℕ → Bool) → ((b : ℕ) → IsEarlier b (form b)) → (lag : ℕ → ℕ → Lag)
    → ((a b : ℕ) → lag a b ≡ entry form apart lag a b) → IsOrderTable ℕ (HasForm form) (Apart apart) lag

-- The same for the last cycle of a life from a node on, with a list of ends.
abbrev pub ClosedLastTableTells : Type 0
ClosedLastTableTells =
    (form : ℕ → Form ℕ) (apart : ℕ → ℕ → Bool) → ((b : ℕ) → IsEarlier b (form b)) → (lag : ℕ → ℕ → Lag)
    → ((a b : ℕ) → lag a b ≡ entry form apart lag a b)
    → (ends : List (Ending ℕ)) (a : ℕ) (last : ℕ → Lag) → ((b : ℕ) → last b ≡ last_entry form apart lag ends a last b)
    → IsLastTable ℕ (HasForm form) (Apart apart) (IsListed ends) a last

-- Each judgement over the nodes of a graph holds or does not.
abbrev pub JudgementsAreDecided : Type 0
JudgementsAreDecided =
    (form : ℕ → Form ℕ) (apart : ℕ → ℕ → Bool) → ((b : ℕ) → IsEarlier b (form b)) → (a b : ℕ) (d : ℤ)
    → Before ℕ (HasForm form) (Apart apart) a d b ⊎ (Before ℕ (HasForm form) (Apart apart) a d b → ⊥)
