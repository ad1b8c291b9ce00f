-- The graph of one turn, as a machine is built over it: which nodes are drawn, and how.
--
-- A turn begins where the one before has ended, in the same cycle. So the end of a turn has to be known before the
-- begin is. The nodes of the tail are those that may fall on the end of the turn. They are made from registers and
-- from one another alone, and every other node may ask whether a turn begins.
use Rattle.std.specs.Prelude.{ℕ, ◌≡◌, ◌<◌, Bool, true, false}
use Rattle.order_rules.specs.Form.{Form, Start, Same, After, Sync, Join, Side, Merge}

-- which nodes are live, the form of each over earlier nodes, the node of the end of the turn, which nodes are of the
-- tail, and which joins forget at each begin of a turn that one of both ends has come
pub record TurnGraph : Type 0 where
  pub live : (node : ℕ) → Bool
  pub form : (node : ℕ) → Form ℕ
  pub last : ℕ
  pub tail : (node : ℕ) → Bool
  pub forgets : (node : ℕ) → Bool

-- a live node before this one
abbrev pub IsPredecessor : TurnGraph → (predecessor node : ℕ) → Type 0
IsPredecessor graph predecessor node = (predecessor < node) × (graph.live predecessor ≡ true)

-- a node of this form: its predecessors are live and earlier, a delay takes time, and both ends of a join are of the
-- tail or neither is
abbrev pub IsNode : TurnGraph → (node : ℕ) → Form ℕ → Type 0
IsNode graph node Start = Unit {0}
IsNode graph node (Same from) = IsPredecessor graph from node
IsNode graph node (After delay from) = IsPredecessor graph from node × (0 < delay)
IsNode graph node (Sync from) = IsPredecessor graph from node
IsNode graph node (Side from) = IsPredecessor graph from node
IsNode graph node (Join first second) =
    IsPredecessor graph first node
    × IsPredecessor graph second node
    × (graph.tail first ≡ graph.tail second)
    × (graph.forgets node ≡ true → graph.tail first ≡ false)
IsNode graph node (Merge first second) = IsPredecessor graph first node × IsPredecessor graph second node

-- what a node of the tail may be: a delay, which is a register, or made from nodes of the tail
abbrev pub IsTailNode : TurnGraph → (node : ℕ) → Form ℕ → Type 0
IsTailNode graph node Start = ⊥
IsTailNode graph node (Same from) = graph.tail from ≡ true
IsTailNode graph node (After delay from) = Unit {0}
IsTailNode graph node (Sync from) = ⊥
IsTailNode graph node (Side from) = ⊥
IsTailNode graph node (Join first second) =
    (graph.tail first ≡ true) × (graph.tail second ≡ true) × (graph.forgets node ≡ false)
IsTailNode graph node (Merge first second) = (graph.tail first ≡ true) × (graph.tail second ≡ true)

pub record IsTurnGraph (graph : TurnGraph) : Type 0 where
  pub nodes : (node : ℕ) → graph.live node ≡ true → IsNode graph node (graph.form node)
  pub tails : (node : ℕ) → graph.live node ≡ true → graph.tail node ≡ true → IsTailNode graph node (graph.form node)
  pub last_live : graph.live graph.last ≡ true
  pub last_tail : graph.tail graph.last ≡ true
