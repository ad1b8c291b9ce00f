-- The points of a turn that have a node of their own, in the order of their nodes, and how each of them is drawn.
--
-- Every other point is of the form Same, and shares the node of its predecessor.
use Rattle.std.specs.Prelude.{ℕ, ◌+◌, List, [], ◌∷◌, ◌++◌}
use Rattle.order_rules.specs.Form.{Form, Start, Same, After, Sync, Join, Side, Merge}
use Rattle.core_term.specs.Term.{Term, One, Then, Both, Act, Cycle, Set, Send, Recv, If, When, Block, Wait, Pure, Nothing, site, head}
use Rattle.core_term.specs.Points.{Spot, TermBegin, TermEnd, Begin, End, NoSide, Formed, ◌is◌}
use Rattle.event_graph.specs.declared.node.Arm.{Arm}
use Rattle.event_graph.specs.declared.node.Kind.{Kind}
use Rattle.event_graph.specs.declared.node.Kind.TheVariants as kind
use Rattle.event_graph.specs.Event.{Event}

abbrev pub begin_of : Term → Spot
begin_of t = TermBegin (site (head t))

abbrev pub end_of : Term → Spot
end_of t = TermEnd (site (head t))

abbrev mutual
  pub owned : Term → List Formed
  owned (One a) = owned_of a
  owned (Then a t) = owned_of a ++ owned t
  owned (Both a t) = owned_of a ++ (owned t ++ (TermEnd (site a) is Join (End (site a)) (end_of t)) ∷ [])

  pub owned_of : Act → List Formed
  owned_of (Cycle p n) = (End p is After n (Begin p)) ∷ []
  owned_of (Set p r e) = (End p is After 1 (Begin p)) ∷ []
  owned_of (Send p m e) = (End p is Sync (Begin p)) ∷ []
  owned_of (Recv p m) = (End p is Sync (Begin p)) ∷ []
  owned_of (If p e t u w) =
      (begin_of t is Side (Begin p))
      ∷ owned t ++ ((begin_of u is Side (Begin p)) ∷ owned u ++ (End p is Merge (end_of t) (end_of u)) ∷ [])
  owned_of (When p e t) =
      (begin_of t is Side (Begin p))
      ∷ owned t ++ ((NoSide p is Side (Begin p)) ∷ (End p is Merge (end_of t) (NoSide p)) ∷ [])
  owned_of (Block p t) = owned t
  owned_of (Wait p y) = (End p is Join (Begin p) (End y)) ∷ []
  owned_of (Pure p e) = []
  owned_of (Nothing p) = []

-- how many they are
abbrev mutual
  pub count : Term → ℕ
  count (One a) = count_of a
  count (Then a t) = count_of a + count t
  count (Both a t) = count_of a + (count t + 1)

  pub count_of : Act → ℕ
  count_of (If p e t u w) = (count t + 1) + ((count u + 1) + 1)
  count_of (When p e t) = (count t + 1) + 2
  count_of (Block p t) = count t
  count_of (Pure p e) = 0
  count_of (Nothing p) = 0
  count_of a = 1

abbrev pub kind_of : Form Spot → Kind
kind_of Start = kind.Start
kind_of (Same c) = kind.Same
kind_of (After n c) = kind.After n
kind_of (Sync c) = kind.Sync
kind_of (Join c e) = kind.Join
kind_of (Side c) = kind.Side
kind_of (Merge c e) = kind.Merge

abbrev pub preds_of : (Spot → ℕ) → Form Spot → List ℕ
preds_of node Start = []
preds_of node (Same c) = node c ∷ []
preds_of node (After n c) = node c ∷ []
preds_of node (Sync c) = node c ∷ []
preds_of node (Join c e) = node c ∷ node e ∷ []
preds_of node (Side c) = node c ∷ []
preds_of node (Merge c e) = node c ∷ node e ∷ []

-- the node of a point that has one of its own, from the nodes and the arms of all points of its turn
abbrev pub drawn : (Spot → ℕ) → (Spot → List Arm) → Formed → Event
drawn node arms g = record { kind = kind_of g.form; preds = preds_of node g.form; arms = arms g.spot }

abbrev pub drawn_all : (Spot → ℕ) → (Spot → List Arm) → List Formed → List Event
drawn_all node arms [] = []
drawn_all node arms (g ∷ rest) = drawn node arms g ∷ drawn_all node arms rest
