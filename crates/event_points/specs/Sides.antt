-- The sides of an `if` in the graph of one turn: their last arm, and that they come after all acts up to the `if`.
use Rattle.std.specs.Prelude.{ℕ, ◌≡◌, ◌<◌, ◌≤◌, true, false, List, [], ◌∷◌, ◌++◌}
use Rattle.order_rules.specs.Form.{Side}
use Rattle.core_term.specs.Term.{Term, Act, If, When, head}
use Rattle.core_term.specs.Points.{Spot, Begin, NoSide, forms}
use Rattle.core_term.specs.Order.{IsFormed}
use Rattle.core_term.specs.Stands.{Stands}
use Rattle.core_term.specs.Numbering.{Numbered}
use Rattle.event_graph.specs.declared.node.Arm.{Arm}
use Rattle.event_points.specs.Owned.{begin_of}
use Rattle.event_points.specs.Placed.{arm}
use Rattle.event_points.specs.Table.{node_in, arms_in}
use Rattle.event_points.specs.Nodes.{first_table}

-- each side of an `if` lies in the sides of the `if`, and last in that side
abbrev pub SideArms : (turn : ℕ) → (Spot → List Arm) → Act → Type 0
SideArms turn arms (If p e t u w) =
    (these : List Arm) × (arms (begin_of t) ≡ these ++ arm turn p true ∷ []) × (arms (begin_of u) ≡ these ++ arm turn p false ∷ [])
SideArms turn arms (When p e t) =
    (these : List Arm) × (arms (begin_of t) ≡ these ++ arm turn p true ∷ []) × (arms (NoSide p) ≡ these ++ arm turn p false ∷ [])
SideArms turn arms a = Unit {0}

-- The last arm of each side of an `if` is that side.
abbrev pub SidesHaveArms : Type 0
SidesHaveArms =
    (body : Term) → Numbered [] 0 body → (scope : List Act) (u : Term) → Stands [] body scope u
    → SideArms 1 (arms_in 1 (first_table body)) (head u)

-- The side of an `if` comes after the begin of each act up to that `if` in the text.
abbrev pub SidesInTextOrder : Type 0
SidesInTextOrder =
    (body : Term) → Numbered [] 0 body → (b : Spot) (q p : ℕ) → IsFormed (forms body) b (Side (Begin q)) → p ≤ q
    → node_in (first_table body) (Begin p) < node_in (first_table body) b
