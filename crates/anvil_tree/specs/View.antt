-- Which tree a value of the crate's types is. In such a value a box is a pointer and what lies behind it, and a node or an act
-- lies flat in what holds it: first its place, and then its kind. The pointers say nothing.
use Rattle.std.specs.Prelude.{ℕ, map, Option, Some, None}
use Rattle.anvil_tree.specs.declared.expr.Expr.{Expr}
use Rattle.anvil_tree.specs.declared.expr.ExprKind.{ExprKind, Lit, Var, Deref, Not', Bin', Slice, Choose', Unit}
use Rattle.anvil_tree.specs.declared.term.Act.{Act}
use Rattle.anvil_tree.specs.declared.term.ActKind.{ActKind, Cycle, Set, Send, Recv, If', Block', Pure, Held-ActKind-If-2, None', Some'}
use Rattle.anvil_tree.specs.declared.term.Term.{Term, One', Then', Both'}
use Rattle.anvil_tree.specs.declared.file.Chan.{Chan}
use Rattle.anvil_tree.specs.declared.file.Proc.{Proc}
use Rattle.anvil_tree.specs.declared.file.Item.{Item}
use Rattle.anvil_tree.specs.declared.file.Item.TheVariants as item
use Rattle.anvil_tree.specs.declared.file.File.{File}
use Rattle.anvil_tree.specs.Tree as tree

-- a node of the kind, at the place
abbrev pub expr_at : ℕ → ExprKind → tree.Expr
expr_at at (Lit width value) = tree.literal at width value
expr_at at (Var name) = tree.variable at name
expr_at at (Deref register) = tree.shown at register
expr_at at (Not' pointer operand_at operand) = tree.inverse at (expr_at operand_at operand)
expr_at at (Bin' operator pointer first_at first pointer' second_at second) = tree.binary at operator (expr_at first_at first) (expr_at second_at second)
expr_at at (Slice name high low) = tree.slice at name high low
expr_at at (Choose' pointer condition_at condition pointer' first_at first pointer'' second_at second) =
    tree.choice at (expr_at condition_at condition) (expr_at first_at first) (expr_at second_at second)
expr_at at Unit = tree.unit at

abbrev pub expr_of : Expr → tree.Expr
expr_of expr = expr_at expr.at expr.kind

-- an `if` with what stands for its missing or given else
abbrev pub if_at : ℕ → tree.Expr → tree.Term → Option tree.Term → tree.Act
if_at at condition first None = tree.when at condition first
if_at at condition first (Some second) = tree.either at condition first second

abbrev mutual
  pub term_of : Term → tree.Term
  term_of (One' at kind) = tree.single (act_at at kind)
  term_of (Then' bound at kind pointer term) = tree.follow bound (act_at at kind) (term_of term)
  term_of (Both' bound at kind pointer term) = tree.beside bound (act_at at kind) (term_of term)

  -- an act of the kind, at the place
  pub act_at : ℕ → ActKind → tree.Act
  act_at at (Cycle count count_at) = tree.cycle at count count_at
  act_at at (Set register register_at value) = tree.set at register register_at (expr_of value)
  act_at at (Send endpoint endpoint_at message message_at value) = tree.send at endpoint endpoint_at message message_at (expr_of value)
  act_at at (Recv endpoint endpoint_at message message_at) = tree.receive at endpoint endpoint_at message message_at
  act_at at (If' condition pointer first second) = if_at at (expr_of condition) (term_of first) (else_of second)
  act_at at (Block' pointer term) = tree.block at (term_of term)
  act_at at (Pure expr) = tree.pure at (expr_of expr)

  pub else_of : Held-ActKind-If-2 → Option tree.Term
  else_of None' = None
  else_of (Some' pointer term) = Some (term_of term)

abbrev pub act_of : Act → tree.Act
act_of act = act_at act.at act.kind

abbrev pub class_of : Chan → tree.Class
class_of chan = record { name = chan.name; at = chan.at; messages = chan.messages.items }

abbrev pub process_of : Proc → tree.Process
process_of proc = record { name = proc.name; at = proc.at; endpoints = proc.endpoints.items; registers = proc.registers.items; threads = map term_of proc.threads.items }

abbrev pub item_of : Item → tree.Item
item_of (item.Chan chan) = tree.class (class_of chan)
item_of (item.Proc proc) = tree.process (process_of proc)

abbrev pub file_of : File → tree.File
file_of file = map item_of file.items.items
