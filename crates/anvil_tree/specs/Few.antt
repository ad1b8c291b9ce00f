-- The counts of a file that are limited, told from its tree: its classes and processes, the messages of a class, the endpoints,
-- registers and threads of a process, the acts of a thread, and the nodes of an expression.
use Rattle.std.specs.Prelude.{⊤, ℕ, ◌+◌, ◌≤◌, List, [], ◌∷◌, length}
use Rattle.std.specs.List.{AllByRecursion}
use Rattle.anvil_tree.specs.Tree.{Expr, literal, variable, shown, inverse, binary, slice, choice, unit, Term, single, follow, beside, Act, cycle, set, send, receive, when, either, block, pure, Item, class, process, File}

-- the most nodes of an expression, acts of a thread, and threads of a process
abbrev pub most_nodes : ℕ
most_nodes = 256

abbrev pub most_acts : ℕ
most_acts = 512

abbrev pub most_threads : ℕ
most_threads = 16

-- the most classes of a file, its most processes, the most messages of a class, and the most endpoints and registers of a process
abbrev pub most_parts : ℕ
most_parts = 64

-- the nodes of an expression
abbrev pub node_count : Expr → ℕ
node_count (inverse at operand) = 1 + node_count operand
node_count (binary at operator first second) = 1 + (node_count first + node_count second)
node_count (choice at condition first second) = 1 + (node_count condition + (node_count first + node_count second))
node_count leaf = 1

-- the acts of a term, with those inside others
abbrev mutual
  pub act_count : Term → ℕ
  act_count (single act) = act_count_in act
  act_count (follow bound act term) = act_count_in act + act_count term
  act_count (beside bound act term) = act_count_in act + act_count term

  pub act_count_in : Act → ℕ
  act_count_in (when at condition first) = 1 + act_count first
  act_count_in (either at condition first second) = 1 + (act_count first + act_count second)
  act_count_in (block at body) = 1 + act_count body
  act_count_in act = 1

-- each expression of a term has few nodes
abbrev mutual
  pub HasFewNodes : Term → Type 0
  HasFewNodes (single act) = HasFewNodesIn act
  HasFewNodes (follow bound act term) = HasFewNodesIn act × HasFewNodes term
  HasFewNodes (beside bound act term) = HasFewNodesIn act × HasFewNodes term

  pub HasFewNodesIn : Act → Type 0
  HasFewNodesIn (cycle at count count_at) = ⊤
  HasFewNodesIn (set at register register_at value) = node_count value ≤ most_nodes
  HasFewNodesIn (send at endpoint endpoint_at message message_at value) = node_count value ≤ most_nodes
  HasFewNodesIn (receive at endpoint endpoint_at message message_at) = ⊤
  HasFewNodesIn (when at condition first) = (node_count condition ≤ most_nodes) × HasFewNodes first
  HasFewNodesIn (either at condition first second) =
      (node_count condition ≤ most_nodes) × HasFewNodes first × HasFewNodes second
  HasFewNodesIn (block at body) = HasFewNodes body
  HasFewNodesIn (pure at expr) = node_count expr ≤ most_nodes

abbrev pub ThreadIsFew : Term → Type 0
ThreadIsFew term = (act_count term ≤ most_acts) × HasFewNodes term

abbrev pub ItemIsFew : Item → Type 0
ItemIsFew (class c) = length c.messages ≤ most_parts
ItemIsFew (process p) =
    (length p.endpoints ≤ most_parts) × (length p.registers ≤ most_parts) × (length p.threads ≤ most_threads)
    × AllByRecursion ThreadIsFew p.threads

abbrev pub class_count : File → ℕ
class_count [] = 0
class_count (class c ∷ items) = 1 + class_count items
class_count (process p ∷ items) = class_count items

abbrev pub process_count : File → ℕ
process_count [] = 0
process_count (class c ∷ items) = process_count items
process_count (process p ∷ items) = 1 + process_count items

-- no count of the file is past its limit
pub record IsFew (file : File) : Type 0 where
  pub classes : class_count file ≤ most_parts
  pub processes : process_count file ≤ most_parts
  pub each : AllByRecursion ItemIsFew file
