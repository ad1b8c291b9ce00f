-- Sides are chosen as their arms say: the node of each side names its `if`, and which side it is.
use Rattle.std.proofs.Common.{◌≡◌, ℕ, not, Bool, true, false, refl}
use Rattle.core_term.specs.Term.{Act, Cycle, Set, Send, Recv, If, When, Block, Wait, Pure, Nothing, site, head}
use Rattle.core_term.specs.Points.{Spot, TermBegin, NoSide}
use Rattle.turn_machine.specs.OneTurn.{SeesSides}
use Rattle.turn_machine.specs.SideArms.{Arms, HasArm, SidesHaveArms, chosen_by}

module _ (arms : Arms) (node_of : Spot → ℕ) (decision : ℕ → ℕ → Bool) where
  first_chosen : (node place : ℕ) → HasArm arms node place true → (start : ℕ) → chosen_by arms decision node start ≡ decision place start
  first_chosen node place arm start = let at_place = arm.site_is in let is_first = arm.side_is in rw (is_first, at_place) refl

  second_chosen : (node place : ℕ) → HasArm arms node place false → (start : ℕ) → chosen_by arms decision node start ≡ not (decision place start)
  second_chosen node place arm start = let at_place = arm.site_is in let is_second = arm.side_is in rw (is_second, at_place) refl

  pub chosen : (act : Act) → SidesHaveArms arms node_of act → SeesSides decision node_of (chosen_by arms decision) act
  chosen (If p condition first second valued) have = (first_chosen (node_of (TermBegin (site (head first)))) p have.0, second_chosen (node_of (TermBegin (site (head second)))) p have.1)
  chosen (When p condition first) have = (first_chosen (node_of (TermBegin (site (head first)))) p have.0, second_chosen (node_of (NoSide p)) p have.1)
  chosen (Cycle p count) have = tt
  chosen (Set p register value) have = tt
  chosen (Send p port value) have = tt
  chosen (Recv p port) have = tt
  chosen (Block p inner) have = tt
  chosen (Wait p variable) have = tt
  chosen (Pure p value) have = tt
  chosen (Nothing p) have = tt
