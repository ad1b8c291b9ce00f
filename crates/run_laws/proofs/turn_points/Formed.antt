-- What holds of every form of a list holds of each that stands in it, and the other way round.
--
-- The forms of a body are a list, made by recursion on the text; a property of all its points is proved part by part and read
-- off at a point.
use Rattle.std.proofs.Common.{inl, inr, refl, subst, List, [], ◌∷◌, ◌++◌}
use Rattle.order_rules.specs.Form.{Form}
use Rattle.core_term.specs.Points.{Spot, Formed, ◌is◌}
use Rattle.core_term.specs.Order.{IsFormed}

module _ (P : Formed → Type 0) where
  abbrev pub Every : List Formed → Type 0
  Every [] = Unit {0}
  Every (formed ∷ rest) = P formed × Every rest

  pub every_append : (one other : List Formed) → Every one → Every other → Every (one ++ other)
  every_append [] other of_one of_other = of_other
  every_append (formed ∷ one) other of_one of_other = (of_one.0, every_append one other of_one.1 of_other)

  pub every_left : (one other : List Formed) → Every (one ++ other) → Every one
  every_left [] other of_both = tt
  every_left (formed ∷ one) other of_both = (of_both.0, every_left one other of_both.1)

  pub every_right : (one other : List Formed) → Every (one ++ other) → Every other
  every_right [] other of_both = of_both
  every_right (formed ∷ one) other of_both = every_right one other of_both.1

  pub at_form : (all : List Formed) → Every all → (b : Spot) (f : Form Spot) → IsFormed all b f → P (b is f)
  at_form [] every b f formed = elim formed [ ]
  at_form (first ∷ rest) every b f (inl same) = subst P same every.0
  at_form (first ∷ rest) every b f (inr formed) = at_form rest every.1 b f formed

  pub every_form : (all : List Formed) → ((b : Spot) (f : Form Spot) → IsFormed all b f → P (b is f)) → Every all
  every_form [] each = tt
  every_form (first ∷ rest) each = (each first.spot first.form (inl refl), every_form rest (λ b f formed. each b f (inr formed)))
