-- Standing in a list.
use Rattle.std.specs.Prelude.{◌≡◌, ◌⊎◌, List, [], ◌∷◌}

-- the item stands in the list
abbrev pub Has : {A : Type 0} → List A → A → Type 0
Has [] item = ⊥
Has (first ∷ rest) item = (item ≡ first) ⊎ Has rest item
