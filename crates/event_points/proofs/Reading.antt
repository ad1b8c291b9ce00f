-- Reading a list of nodes: the points of a turn that have nodes of their own, drawn one after the other, own the nodes from their first
-- number on, whatever stands before and behind them.
use Rattle.std.proofs.Common.{◌≡◌, ℕ, zero, suc, ◌+◌, arith, refl, ◌∙◌, ap, subst, List, [], ◌∷◌, ◌++◌, length, Option, Some, None, slice_get}
use Rattle.order_rules.specs.Form.{Form}
use Rattle.order_rules.specs.Standing.{map_form}
use Rattle.core_term.specs.Term.{Term}
use Rattle.core_term.specs.Points.{Spot, Formed, forms}
use Rattle.core_term.specs.Order.{IsFormed}
use Rattle.event_graph.specs.declared.node.Arm.{Arm}
use Rattle.event_graph.specs.Event.{Event}
use Rattle.event_graph.specs.Forms.{form_in, form_at, arms_in, arms_at}
use Rattle.event_points.specs.Owned.{drawn, drawn_all}
use Rattle.event_points.proofs.Steps.{Owns}
use Rattle.event_points.proofs.OneTurn.{Own, drawn_form}

pub spots : {P : Type 0} → (Spot → P) → List Formed → List P
spots place [] = []
spots place (g ∷ gs) = place g.spot ∷ spots place gs

abbrev pub or_else : {P : Type 0} → P → Option P → P
or_else d None = d
or_else d (Some x) = x

abbrev pub root_in : {P : Type 0} → P → List P → ℕ → P
root_in d roots n = or_else d (slice_get roots n)

pub length_drawn : (node : Spot → ℕ) (arms : Spot → List Arm) (gs : List Formed) → length (drawn_all node arms gs) ≡ length gs
length_drawn node arms [] = refl
length_drawn node arms (g ∷ gs) = ap (λ (z : ℕ). suc z) (length_drawn node arms gs)

pub length_spots : {P : Type 0} (place : Spot → P) (gs : List Formed) → length (spots place gs) ≡ length gs
unfolding spots
length_spots place [] = refl
length_spots place (g ∷ gs) = ap (λ (z : ℕ). suc z) (length_spots place gs)

-- what stands after a list of n items
pub read_after : {X : Type 0} (n k : ℕ) (xs ys : List X) → length xs ≡ n → slice_get (xs ++ ys) (n + k) ≡ slice_get ys k
read_after n k [] ys e = let P : ℕ → Type 0 = λ z. slice_get ys z ≡ slice_get ys k in let f : k ≡ n + k = omega arith in subst P f refl
read_after zero k (x ∷ xs) ys e = absurd (omega arith)
read_after (suc n) k (x ∷ xs) ys e =
    let P : ℕ → Type 0 = λ z. slice_get (x ∷ xs ++ ys) z ≡ slice_get ys k in
    let f : suc (n + k) ≡ suc n + k = omega arith in
    subst P f (read_after n k xs ys (omega arith))

module _ (turn : ℕ) (P : Type 0) (HasForm : P → Form P → Type 0) (place : Spot → P) (node : P → ℕ) (events : List Event) (roots : List P) (d : P) (arms : Spot → List Arm) (body : Term)
    (formed : (b : Spot) (f : Form Spot) → IsFormed (forms body) b f → HasForm (place b) (map_form place f)) where
  abbrev pub Owned : ℕ → Formed → Type 0
  Owned = Own turn P HasForm place node (form_at events) (arms_at events) arms (root_in d roots) body formed

  pub owns_from : (n : ℕ) (gs : List Formed) (post : List Event) (after : List P) → ((k : ℕ) → slice_get events (n + k) ≡ slice_get (drawn_all (λ s. node (place s)) arms gs ++ post) k)
      → ((k : ℕ) → slice_get roots (n + k) ≡ slice_get (spots place gs ++ after) k) → Owns (λ s. node (place s)) Owned n gs
  unfolding spots
  owns_from n [] post after r q = tt
  owns_from n (g ∷ gs) post after r q =
      let z : n + 0 ≡ n = omega arith in
      let R : ℕ → Type 0 = λ m. slice_get events m ≡ Some (drawn (λ s. node (place s)) arms g) in
      let Q : ℕ → Type 0 = λ m. slice_get roots m ≡ Some (place g.spot) in
      let e = subst R z (r 0) in
      let f = subst Q z (q 0) in (
        record { root_is = ap (or_else d) f; form_is = ap form_in e ∙ drawn_form (λ s. node (place s)) g.form; arms_is = ap arms_in e },
        owns_from (suc n) gs post after
            (λ k. let S : ℕ → Type 0 = λ m. slice_get events m ≡ slice_get (drawn_all (λ s. node (place s)) arms gs ++ post) k in let y : n + suc k ≡ suc n + k = omega arith in subst S y (r (suc k)))
            (λ k. let S : ℕ → Type 0 = λ m. slice_get roots m ≡ slice_get (spots place gs ++ after) k in let y : n + suc k ≡ suc n + k = omega arith in subst S y (q (suc k))),
      )
