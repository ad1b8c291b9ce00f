-- The body of a thread, as the code keeps it: numbered, tail-stepped, of at most 512 acts, with no `cycle` of 0, and
-- with places that never fall in tree order.
--
-- The first parts speak of the plain term, and hold for all widths, since none of them depends on a width.
use Rattle.std.specs.Prelude.{ℕ, ◌≤◌, List, [], ◌∷◌, length}
use Rattle.core_term.specs.declared.term.CoreTerm.{CoreTerm}
use Rattle.core_term.specs.Lists.{Has}
use Rattle.core_term.specs.Limits.{most_acts}
use Rattle.core_term.specs.Numbering.{Numbered}
use Rattle.core_term.specs.Tail.{IsTail, CyclesTakeTime}
use Rattle.core_term.specs.Widths.{Widths}
use Rattle.core_term.specs.View.{term_of, places_of}

-- no number is greater than a later one
abbrev pub NeverFalls : List ℕ → Type 0
NeverFalls [] = Unit {0}
NeverFalls (n ∷ rest) = ((m : ℕ) → Has rest m → n ≤ m) × NeverFalls rest

pub record IsBody (body : CoreTerm) : Type 0 where
  pub numbered : (widths : Widths) → Numbered [] 0 (term_of widths body)
  pub tail : (widths : Widths) → IsTail (term_of widths body)
  pub cycles : (widths : Widths) → CyclesTakeTime (term_of widths body)
  pub in_order : NeverFalls (places_of body)
  pub few : length (places_of body) ≤ most_acts
