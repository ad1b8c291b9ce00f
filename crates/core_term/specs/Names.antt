-- Names of a process: which are good, and that none stands twice. A good name can stand in an emitted module.
use Rattle.std.specs.Prelude.{Bool, true, not, ◌&&◌, List, [], ◌∷◌}
use Rattle.std.specs.List.{list_any}
pub use Rattle.anvil_lexer.specs.GoodName.{is_good_name}

-- no item is the same as a later one
abbrev pub has_no_twice : {X : Type 0} → (X → X → Bool) → List X → Bool
has_no_twice same [] = true
has_no_twice same (x ∷ rest) = not (list_any (same x) rest) && has_no_twice same rest
