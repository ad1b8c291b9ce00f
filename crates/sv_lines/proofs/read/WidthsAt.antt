-- The width of the item at a place, and 0 past the end.
use Rattle.std.proofs.Common.{◌≡◌, ℕ, zero, suc, ◌<◌, ◌≤◌, List, [], ◌∷◌, length, map, get_or, refl, arith}
use Rattle.std.specs.Prelude.{slice_index}

pub width_at : {X : Type 0} (width : X → ℕ) (items : List X) (index : ℕ) (default : X) → index < length items → slice_index (map width items) index ≡ width (get_or items index default)
width_at width [] index default within = absurd (omega arith)
width_at width (item ∷ items) zero default within = refl
width_at width (item ∷ items) (suc index) default within = width_at width items index default (omega arith)

pub no_width_at : {X : Type 0} (width : X → ℕ) (items : List X) (index : ℕ) → length items ≤ index → slice_index (map width items) index ≡ 0
no_width_at width [] index past = refl
no_width_at width (item ∷ items) zero past = absurd (omega arith)
no_width_at width (item ∷ items) (suc index) past = no_width_at width items index (omega arith)
