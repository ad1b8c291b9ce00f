-- The nodes that begin sides of `if`s are those of the form Side.
use Rattle.std.proofs.Common.{◌≡◌, ℕ, zero, suc, ◌<◌, ◌≤◌, ◌⊎◌, inl, inr, arith, refl, sym, ◌∙◌, ap, subst, true, false, Bool, List, [], ◌∷◌, ◌++◌, length}
use Rattle.std.proofs.lemmas.Option.{slice_get_past}
use Rattle.order_rules.specs.Form.{Form, Start, Same, After, Sync, Join, Side, Merge}
use Rattle.order_rules.specs.Standing.{map_form}
use Rattle.core_term.specs.Term.{Term, Act, Cycle, Set, Send, Recv, If, When, Block, Wait, Pure, Nothing, head}
use Rattle.core_term.specs.Numbering.{size, Numbered}
use Rattle.core_term.specs.Points.{Spot, Begin, NoSide, forms}
use Rattle.core_term.specs.Order.{IsFormed}
use Rattle.core_term.specs.Stands.{Stands}
use Rattle.event_graph.specs.declared.node.Arm.{Arm}
use Rattle.event_graph.specs.Forms.{form_at, form_in, arms_at}
use Rattle.event_points.specs.Owned.{begin_of}
use Rattle.event_points.specs.Placed.{arm}
use Rattle.event_points.specs.Sides.{SideArms}
use Rattle.event_points.specs.Table.{node_in, arms_in}
use Rattle.event_points.specs.Nodes.{once, first_table}
use Rattle.event_points.proofs.InTable.{body_told}
use Rattle.event_points.proofs.Once.{own_step, begin_node, formed_inside, lies_once}
use Rattle.event_points.proofs.OneTurn.{drawn_form}
use Rattle.event_points.proofs.TextOrder.{in_order, arms_of_sides}
use Rattle.turn_nodes.specs.Laws.{SideDrawn, SidesDrawn}
use Rattle.turn_nodes.proofs.Drawn.{DrawnAs, drawn_as}
use Rattle.turn_nodes.proofs.Sided.{IsSide, side_at, SidesFormed, sides_formed}

-- only a point of the form Side has a node of the form Side
record ComesFrom (f : Form Spot) : Type 0 where
  from : Spot
  form_is : f ≡ Side from

comes_from : (node : Spot → ℕ) (f : Form Spot) (c : ℕ) → map_form node f ≡ Side c → ComesFrom f
comes_from node Start c is = absurd cc
comes_from node (Same b) c is = absurd cc
comes_from node (After n b) c is = absurd cc
comes_from node (Sync b) c is = absurd cc
comes_from node (Join b e) c is = absurd cc
comes_from node (Side b) c is = record { from = b; form_is = refl }
comes_from node (Merge b e) c is = absurd cc

module _ (body : Term) (numbered : Numbered [] 0 body) where
  abbrev node : Spot → ℕ
  node = node_in (first_table body)

  abbrev arms : Spot → List Arm
  arms = arms_in 1 (first_table body)

  drawn_side : (b : Spot) (place : ℕ) (first : Bool) (these : List Arm) → IsFormed (forms body) b (Side (Begin place)) → arms b ≡ these ++ arm 1 place first ∷ [] → place < size body → SideDrawn body place first (node b)
  drawn_side b place first these formed arms_are is_site = by_step (own_step body numbered b (Side (Begin place)) formed)
    where
      by_step : ((c : Spot) × (Side (Begin place) ≡ Same c) × (node b ≡ node c)) ⊎ ((form_at (once body) (node b) ≡ Side (node (Begin place))) × (arms_at (once body) (node b) ≡ arms b)) → SideDrawn body place first (node b)
      by_step (inl shares) = absurd (let impossible = shares.1 in cc)
      by_step (inr own) = record {
        inside = formed_inside body numbered b (Side (Begin place)) formed;
        form_is = own.0;
        these = these;
        arms_are = own.1 ∙ arms_are;
        is_site = is_site;
        later = λ before upto. in_order node 1 body numbered (body_told 1 1 0 body numbered).0 (let begins = begin_node body numbered in omega arith) b place before formed upto;
      }

  its_side : (b c : Spot) → IsFormed (forms body) b (Side c) → IsSide arms (size body) b c
  its_side b c formed = side_at arms (size body) body numbered (omega arith) (lies_once body numbered) b c formed

  -- the sides of an `if` that stands in the body
  site_inside : (b : Spot) (p : ℕ) → IsFormed (forms body) b (Side (Begin p)) → p < size body
  site_inside b p formed =
      let side = its_side b (Begin p) formed in
      let from : Begin p ≡ Begin side.place = side.from in
      let same : p ≡ side.place = cc in
      let inside = side.inside in
      omega arith

  drawn_sides : (a : Act) → SidesFormed (forms body) a → SideArms 1 arms a → SidesDrawn body a
  drawn_sides (If p e t u w) formed armed =
      (drawn_side (begin_of t) p true armed.0 formed.0 armed.1 (site_inside (begin_of t) p formed.0), drawn_side (begin_of u) p false armed.0 formed.1 armed.2 (site_inside (begin_of u) p formed.1))
  drawn_sides (When p e t) formed armed =
      (drawn_side (begin_of t) p true armed.0 formed.0 armed.1 (site_inside (begin_of t) p formed.0), drawn_side (NoSide p) p false armed.0 formed.1 armed.2 (site_inside (NoSide p) p formed.1))
  drawn_sides (Cycle p c) formed armed = tt
  drawn_sides (Set p r e) formed armed = tt
  drawn_sides (Send p m e) formed armed = tt
  drawn_sides (Recv p m) formed armed = tt
  drawn_sides (Block p t) formed armed = tt
  drawn_sides (Wait p y) formed armed = tt
  drawn_sides (Pure p e) formed armed = tt
  drawn_sides (Nothing p) formed armed = tt

  pub all_sides : (scope : List Act) (term : Term) → Stands [] body scope term → SidesDrawn body (head term)
  all_sides scope term stands = drawn_sides (head term) (sides_formed stands) (arms_of_sides 1 arms body (lies_once body numbered) scope term stands)

  -- and every node of the form Side
  pub record Begun (n : ℕ) : Type 0 where
    pub place : ℕ
    pub first : Bool
    pub drawn : SideDrawn body place first n

  by_point : (b c : Spot) → IsFormed (forms body) b (Side c) → IsSide arms (size body) b c → Begun (node b)
  by_point b c formed side = record {
    place = side.place;
    first = side.first;
    drawn = drawn_side b side.place side.first side.these (subst (λ d. IsFormed (forms body) b (Side d)) side.from formed) side.arms_are side.inside;
  }

  by_drawn : (n c : ℕ) → DrawnAs body numbered n → form_at (once body) n ≡ Side c → Begun n
  by_drawn n c d is =
      let by = comes_from node d.point.form c (sym (drawn_form node d.point.form) ∙ (sym (ap form_in d.event) ∙ is)) in
      let formed : IsFormed (forms body) d.point.spot (Side by.from) = subst (IsFormed (forms body) d.point.spot) by.form_is d.formed in
      subst Begun d.at (by_point d.point.spot by.from formed (its_side d.point.spot by.from formed))

  pub side_node : (n c : ℕ) → form_at (once body) n ≡ Side c → Begun n
  side_node zero c is = absurd cc
  side_node (suc k) c is = by_place (place (suc k))
    where
      place : (n : ℕ) → (n < length (once body)) ⊎ (length (once body) ≤ n)
      place n = grind arith

      by_place : (suc k < length (once body)) ⊎ (length (once body) ≤ suc k) → Begun (suc k)
      by_place (inl inside) = by_drawn (suc k) c (drawn_as body numbered k inside) is
      by_place (inr past) = let none : form_at (once body) (suc k) ≡ Start = ap form_in (slice_get_past (once body) (suc k) past) in absurd cc
