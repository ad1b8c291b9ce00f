-- The points of a turn and their forms: the begin and the end of each act and of each term.
--
-- An act is named by its site, and a term by the site of the act that it begins with.
use Rattle.std.specs.Prelude.{ℕ, List, [], ◌∷◌, ◌++◌}
use Rattle.order_rules.specs.Form.{Form, Same, After, Sync, Join, Side, Merge}
use Rattle.core_term.specs.Term.{Term, One, Then, Both, Act, Cycle, Set, Send, Recv, If, When, Block, Wait, Pure}
use Rattle.core_term.specs.Term.{Nothing, site, head}

-- NoSide: the side of an `if` that has no else
pub data Spot : Type 0 where
  TermBegin : (site : ℕ) → Spot
  TermEnd : (site : ℕ) → Spot
  Begin : (site : ℕ) → Spot
  End : (site : ℕ) → Spot
  NoSide : (site : ℕ) → Spot

pub record Formed : Type 0 where
  pub spot : Spot
  pub form : Form Spot

abbrev pub ◌is◌ : Spot → Form Spot → Formed
◌is◌ b f = record { spot = b; form = f }

infix 20 ◌is◌
-- the forms of all points of a term but its begin, which has the form that the text around it gives
abbrev mutual
  pub forms : Term → List Formed
  forms (One a) =
      (Begin (site a) is Same (TermBegin (site a))) ∷ (TermEnd (site a) is Same (End (site a))) ∷ act_forms a
  forms (Then a t) =
      (Begin (site a) is Same (TermBegin (site a))) ∷ (TermBegin (site (head t)) is Same (End (site a)))
      ∷ (TermEnd (site a) is Same (TermEnd (site (head t)))) ∷ act_forms a ++ forms t
  forms (Both a t) =
      (Begin (site a) is Same (TermBegin (site a))) ∷ (TermBegin (site (head t)) is Same (TermBegin (site a)))
      ∷ (TermEnd (site a) is Join (End (site a)) (TermEnd (site (head t)))) ∷ act_forms a ++ forms t

  pub act_forms : Act → List Formed
  act_forms (Cycle p n) = (End p is After n (Begin p)) ∷ []
  act_forms (Set p r e) = (End p is After 1 (Begin p)) ∷ []
  act_forms (Send p m e) = (End p is Sync (Begin p)) ∷ []
  act_forms (Recv p m) = (End p is Sync (Begin p)) ∷ []
  act_forms (If p e t u w) =
      (TermBegin (site (head t)) is Side (Begin p)) ∷ (TermBegin (site (head u)) is Side (Begin p))
      ∷ (End p is Merge (TermEnd (site (head t))) (TermEnd (site (head u)))) ∷ forms t ++ forms u
  act_forms (When p e t) =
      (TermBegin (site (head t)) is Side (Begin p)) ∷ (NoSide p is Side (Begin p))
      ∷ (End p is Merge (TermEnd (site (head t))) (NoSide p)) ∷ forms t
  act_forms (Block p t) =
      (TermBegin (site (head t)) is Same (Begin p)) ∷ (End p is Same (TermEnd (site (head t)))) ∷ forms t
  act_forms (Wait p y) = (End p is Join (Begin p) (End y)) ∷ []
  act_forms (Pure p e) = (End p is Same (Begin p)) ∷ []
  act_forms (Nothing p) = (End p is Same (Begin p)) ∷ []
