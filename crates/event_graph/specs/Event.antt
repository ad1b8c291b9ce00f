-- The nodes of a graph as contracts see them, in the order of their numbers: each with its kind, its predecessors and its arms.
--
-- A graph is such a list in which each node has as many predecessors as its kind asks for, all of them earlier nodes.
use Rattle.std.specs.Prelude.{ℕ, suc, ◌<◌, List, [], ◌∷◌, map}
use Rattle.event_graph.specs.declared.node.Arm.{Arm}
use Rattle.event_graph.specs.declared.node.Kind.{Kind}
use Rattle.event_graph.specs.declared.node.Kind.TheVariants.{Start, Same, After, Sync, Join, Side, Merge}
use Rattle.event_graph.specs.declared.node.Node.{Node}

pub record Event : Type 0 where
  pub kind : Kind
  pub preds : List ℕ
  pub arms : List Arm

-- the node of the code as a plain node
abbrev pub event_of : Node → Event
event_of node = record { kind = node.kind; preds = node.preds.now; arms = node.arms.now }

abbrev pub events_of : List Node → List Event
events_of nodes = map event_of nodes

-- no predecessor, one before the node n, two before it
abbrev pub NoPred : List ℕ → Type 0
NoPred [] = Unit {0}
NoPred (c ∷ rest) = ⊥

abbrev pub OnePred : ℕ → List ℕ → Type 0
OnePred n [] = ⊥
OnePred n (c ∷ []) = c < n
OnePred n (c ∷ e ∷ rest) = ⊥

abbrev pub TwoPreds : ℕ → List ℕ → Type 0
TwoPreds n [] = ⊥
TwoPreds n (c ∷ []) = ⊥
TwoPreds n (c ∷ e ∷ []) = (c < n) × (e < n)
TwoPreds n (c ∷ e ∷ g ∷ rest) = ⊥

-- these are the predecessors of a node of the kind that has the number n
abbrev pub ArePreds : Kind → ℕ → List ℕ → Type 0
ArePreds Start n preds = NoPred preds
ArePreds Same n preds = OnePred n preds
ArePreds (After cycles) n preds = OnePred n preds
ArePreds Sync n preds = OnePred n preds
ArePreds Join n preds = TwoPreds n preds
ArePreds Side n preds = OnePred n preds
ArePreds Merge n preds = TwoPreds n preds

-- these are nodes of a graph, from the number n on
abbrev pub AreDrawn : ℕ → List Event → Type 0
AreDrawn n [] = Unit {0}
AreDrawn n (event ∷ rest) = ArePreds event.kind n event.preds × AreDrawn (suc n) rest
