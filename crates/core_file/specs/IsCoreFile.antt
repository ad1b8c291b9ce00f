-- The core file of a tree as a relation: names stand for numbers, each word for its innermost binder, the sites of a
-- thread are those of the order of the text, each body is tail-stepped, ports are in the order of endpoints and
-- messages, and registers have their resets.
--
-- It says of each part what it stands for, and of no walk how that is found: the sites are given by `Numbered`, the
-- numbers of names by the places where these stand. That there is exactly one, where no check fails, is a law
-- (`CoreFileLaws`).
use Rattle.std.specs.Prelude.{ℕ, ◌≡◌, ◌⊎◌, List, [], ◌∷◌, map, zero, suc}
use Rattle.std.specs.List.{AllZip}
use Rattle.anvil_tree.specs.Tree as tree
use Rattle.anvil_tree.specs.Tree.{Name, File, class, process}
use Rattle.anvil_tree.specs.Order.{acts_of_term}
use Rattle.core_term.specs.Term as term
use Rattle.core_term.specs.Term.{Expr, Term, Act, site}
use Rattle.core_term.specs.Numbering.{size, Numbered}
use Rattle.core_term.specs.Process.{Port, Thread}
use Rattle.core_term.specs.Tail.{IsTail}
use Rattle.core_term.specs.View.{not_of_width, operation_of}
use Rattle.first_check.specs.Check.{AllHold}
use Rattle.channel_classes.specs.Classes.{Class, classes_of}
use Rattle.core_file.specs.Scope.{Bound, Scope, after}
use Rattle.core_file.specs.CoreTerm.{operator_of, is_worded}
use Rattle.core_file.specs.CoreProcess.{ports_of, register_of, scope_of}
use Rattle.core_file.specs.CoreFile.{Placed}
use Rattle.core_file.specs.ProcessChecks.{checks_of_processes}

-- Names and numbers.

-- the item stands at the number
abbrev pub IsAt : {X : Type 0} → List X → ℕ → X → Type 0
IsAt [] number item = ⊥
IsAt (first ∷ items) zero item = first ≡ item
IsAt (first ∷ items) (suc number) item = IsAt items number item

-- the word stands for the innermost variable of its name
abbrev pub IsInnermost : List Bound → Name → ℕ → Type 0
IsInnermost [] name y = ⊥
IsInnermost (bound ∷ outer) name y =
    ((bound.name ≡ name) × (y ≡ bound.site)) ⊎ ((bound.name ≡ name → ⊥) × IsInnermost outer name y)

-- the port of the number is that of the endpoint and the message
abbrev pub IsPortOf : List Port → Name → Name → ℕ → Type 0
IsPortOf ports endpoint message number =
    (port : Port) × IsAt ports number port × (port.endpoint ≡ endpoint) × (port.message ≡ message)

-- Expressions.

abbrev pub IsExprOf : Scope → tree.Expr → Expr → Type 0
IsExprOf scope (tree.literal at width value) expr = expr ≡ term.Lit width value
IsExprOf scope (tree.variable at name) expr = (y : ℕ) × IsInnermost scope.variables name y × (expr ≡ term.Var y)
IsExprOf scope (tree.shown at register) expr = (r : ℕ) × IsAt scope.registers r register × (expr ≡ term.Reg r)
IsExprOf scope (tree.inverse at operand) expr =
    (e : Expr) × IsExprOf scope operand e × (expr ≡ not_of_width scope.widths e)
IsExprOf scope (tree.binary at operator first second) expr =
    (a : Expr) × (b : Expr) × IsExprOf scope first a × IsExprOf scope second b
    × (expr ≡ operation_of scope.widths (operator_of operator) a b)
IsExprOf scope (tree.slice at name high low) expr =
    (y : ℕ) × IsInnermost scope.variables name y × (expr ≡ term.Slice y high low)
IsExprOf scope (tree.choice at condition first second) expr =
    (c : Expr) × (a : Expr) × (b : Expr) × IsExprOf scope condition c × IsExprOf scope first a × IsExprOf scope second b
    × (expr ≡ term.Choose c a b)
IsExprOf scope (tree.unit at) expr = ⊥

-- Acts and terms. The act of a chain is bound to the name of its `let` in the rest of the chain, and nowhere else.

-- an act that is an expression: a word alone is a wait, `()` does nothing
abbrev pub IsPureOf : Scope → tree.Expr → Act → Type 0
IsPureOf scope (tree.variable at name) act =
    (s : ℕ) × (y : ℕ) × IsInnermost scope.variables name y × (act ≡ term.Wait s y)
IsPureOf scope (tree.unit at) act = (s : ℕ) × (act ≡ term.Nothing s)
IsPureOf scope expr act = (s : ℕ) × (e : Expr) × IsExprOf scope expr e × (act ≡ term.Pure s e)

abbrev mutual
  pub IsTermOf : Scope → tree.Term → Term → Type 0
  IsTermOf scope (tree.single written) core = (a : Act) × IsActOf scope written a × (core ≡ term.One a)
  IsTermOf scope (tree.follow bound written rest) core =
      (a : Act) × (t : Term) × IsActOf scope written a × IsTermOf (after scope bound (site a) a) rest t
      × (core ≡ term.Then a t)
  IsTermOf scope (tree.beside bound written rest) core =
      (a : Act) × (t : Term) × IsActOf scope written a × IsTermOf (after scope bound (site a) a) rest t
      × (core ≡ term.Both a t)

  pub IsActOf : Scope → tree.Act → Act → Type 0
  IsActOf scope (tree.cycle at count count_at) act = (s : ℕ) × (act ≡ term.Cycle s count)
  IsActOf scope (tree.set at register register_at value) act =
      (s : ℕ) × (r : ℕ) × (e : Expr) × IsAt scope.registers r register × IsExprOf scope value e × (act ≡ term.Set s r e)
  IsActOf scope (tree.send at endpoint endpoint_at message message_at value) act =
      (s : ℕ) × (m : ℕ) × (e : Expr) × IsPortOf scope.ports endpoint message m × IsExprOf scope value e
      × (act ≡ term.Send s m e)
  IsActOf scope (tree.receive at endpoint endpoint_at message message_at) act =
      (s : ℕ) × (m : ℕ) × IsPortOf scope.ports endpoint message m × (act ≡ term.Recv s m)
  IsActOf scope (tree.when at condition first) act =
      (s : ℕ) × (e : Expr) × (t : Term) × IsExprOf scope condition e × IsTermOf scope first t × (act ≡ term.When s e t)
  IsActOf scope (tree.either at condition first second) act =
      (s : ℕ) × (e : Expr) × (t : Term) × (u : Term)
      × IsExprOf scope condition e × IsTermOf scope first t × IsTermOf scope second u
      × (act ≡ term.If s e t u (is_worded scope t u))
  IsActOf scope (tree.block at body) act = (s : ℕ) × (t : Term) × IsTermOf scope body t × (act ≡ term.Block s t)
  IsActOf scope (tree.pure at expr) act = IsPureOf scope expr act

-- Threads, processes and files.

pub record IsThreadOf (scope : Scope) (written : tree.Term) (thread : Thread) : Type 0 where
  pub names : IsTermOf scope written thread.body
  pub sites : Numbered [] 0 thread.body
  pub tail : IsTail thread.body
  pub count : thread.count ≡ size thread.body

pub record IsProcessOf (classes : List Class) (written : tree.Process) (placed : Placed) : Type 0 where
  pub name : placed.process.name ≡ written.name
  pub ports : placed.process.ports ≡ ports_of classes 0 written.endpoints
  pub registers : placed.process.registers ≡ map register_of written.registers
  pub threads : AllZip (IsThreadOf (scope_of classes written)) written.threads placed.process.threads
  pub places : placed.places ≡ map acts_of_term written.threads

-- the processes of a file, in order
abbrev pub processes_of : File → List tree.Process
processes_of [] = []
processes_of (class c ∷ items) = processes_of items
processes_of (process written ∷ items) = written ∷ processes_of items

-- every check of the processes holds, and they stand for the core processes in order
pub record IsCoreFileOf (file : File) (core : List Placed) : Type 0 where
  pub hold : AllHold (checks_of_processes (classes_of file) file)
  pub processes : AllZip (IsProcessOf (classes_of file)) (processes_of file) core
