-- How a machine knows when a side is chosen: by the last arm of its node, which names an `if` and one of its sides.
use Rattle.std.specs.Prelude.{ℕ, ◌≡◌, if◌then◌else◌, not, Bool, true, false, List, []}
use Rattle.core_term.specs.Term.{Term, Act, If, When, site, head}
use Rattle.core_term.specs.Stands.{Stands}
use Rattle.core_term.specs.Points.{Spot, TermBegin, NoSide}
use Rattle.turn_machine.specs.OneTurn.{SeesSides}

-- by node, the site of an `if`, and whether it is its first side
pub record Arms : Type 0 where
  pub site_of : (node : ℕ) → ℕ
  pub first_side : (node : ℕ) → Bool

pub record HasArm (arms : Arms) (node place : ℕ) (first : Bool) : Type 0 where
  pub site_is : arms.site_of node ≡ place
  pub side_is : arms.first_side node ≡ first

-- the nodes of the two sides of an act have their arms
abbrev pub SidesHaveArms : Arms → (node_of : Spot → ℕ) → Act → Type 0
SidesHaveArms arms node_of (If p condition first second valued) =
    HasArm arms (node_of (TermBegin (site (head first)))) p true
    × HasArm arms (node_of (TermBegin (site (head second)))) p false
SidesHaveArms arms node_of (When p condition first) =
    HasArm arms (node_of (TermBegin (site (head first)))) p true × HasArm arms (node_of (NoSide p)) p false
SidesHaveArms arms node_of act = Unit {0}

-- a side is chosen as its arm says
abbrev pub chosen_by : Arms → (decision : ℕ → ℕ → Bool) → (node cycle : ℕ) → Bool
chosen_by arms decision node cycle =
    if arms.first_side node
    then decision (arms.site_of node) cycle
    else not (decision (arms.site_of node) cycle)

-- So the sides are chosen by the conditions.
abbrev pub ArmsChooseSides : Type 0
ArmsChooseSides =
    (body : Term) (arms : Arms) (node_of : Spot → ℕ)
    → ((scope : List Act) (term : Term) → Stands [] body scope term → SidesHaveArms arms node_of (head term))
    → (decision : ℕ → ℕ → Bool) (scope : List Act) (term : Term) → Stands [] body scope term
    → SeesSides decision node_of (chosen_by arms decision) (head term)
