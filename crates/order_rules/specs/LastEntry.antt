-- The entries of a table of the last cycle of a life from the node a on, with a list of ends, over nodes 0, 1, 2 and so
-- on.
use Rattle.std.specs.Prelude.{◌≡◌, ℕ, ◌-◌, ◌==◌, if◌then◌else◌, Bool, true, false, List, [], ◌∷◌, ◌⊎◌, pos, negsuc}
use Rattle.order_rules.specs.Form.{Form}
use Rattle.order_rules.specs.Last.{Ending, Within, At}
use Rattle.order_rules.specs.Lag.{Lag, Never, AtLeast, Vacuous}
use Rattle.order_rules.specs.Entry.{most, more, fewer, right}

-- the life has this end
abbrev pub IsListed : List (Ending ℕ) → Ending ℕ → Type 0
IsListed [] ending = ⊥
IsListed (first ∷ rest) ending = (ending ≡ first) ⊎ IsListed rest ending

-- whether a + 0 <= b, told from its lag
abbrev pub from_zero : Lag → Bool
from_zero Never = false
from_zero Vacuous = true
from_zero (AtLeast (pos n)) = true
from_zero (AtLeast (negsuc n)) = false

-- what one end says of the node b, which has the lag from a
abbrev pub end_entry : Lag → ℕ → Ending ℕ → Lag
end_entry lag b (Within k) = if k == 0 then more 1 lag else fewer (k - 1) lag
end_entry lag b (At c) = if c == b then (if from_zero lag then AtLeast (pos 0) else Never) else Never

abbrev pub ends_entry : Lag → ℕ → List (Ending ℕ) → Lag
ends_entry lag b [] = Never
ends_entry lag b (ending ∷ rest) = most (end_entry lag b ending) (ends_entry lag b rest)

-- the entry at b, from those at earlier nodes and the table of the order
abbrev pub last_entry : (ℕ → Form ℕ) → (ℕ → ℕ → Bool) → (ℕ → ℕ → Lag) → List (Ending ℕ) → ℕ → (ℕ → Lag) → ℕ → Lag
last_entry form apart lag ends a last b =
    if apart a b then Vacuous else most (ends_entry (lag a b) b ends) (right (λ c d. last d) a (form b))
