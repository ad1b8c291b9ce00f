-- The state bits of the machine of a process, and the bound on them by the constructs of its text.
--
-- Of each thread the machine keeps one bit that it has started; of each node the counter of a delay, or one bit of a
-- wait for a partner or of a join; of each `if` the side of its latest decision; of each `send` whether it began last
-- of its port. `digits` tells how many binary digits a number has; of it only is used that 1 has one.
use Rattle.std.specs.Prelude.{ℕ, ◌≡◌, ◌+◌, ◌≤◌, if◌then◌else◌, Bool, true, List, [], ◌∷◌, zero, suc}
use Rattle.order_rules.specs.Form.{Form, Start, Same, After, Sync, Join, Side, Merge}
use Rattle.core_term.specs.Term.{
  Term,
  One,
  Then,
  Both,
  Act,
  Cycle,
  Set,
  Send,
  Recv,
  If,
  When,
  Block,
  Wait,
  Pure,
  Nothing,
}
use Rattle.core_term.specs.Points.{Spot}
use Rattle.core_term.specs.Process.{Register, Thread, Process, IsThread}
use Rattle.turn_machine.specs.OneTurn.{turn_graph}

-- The bound: of a body, what each construct may cost.
abbrev mutual
  pub body_bound : (digits : ℕ → ℕ) → Term → ℕ
  body_bound digits (One act) = act_bound digits act
  body_bound digits (Then act rest) = act_bound digits act + body_bound digits rest
  body_bound digits (Both act rest) = 2 + (act_bound digits act + body_bound digits rest)

  pub act_bound : (digits : ℕ → ℕ) → Act → ℕ
  act_bound digits (Cycle place count) = digits count
  act_bound digits (Set place register value) = 1
  act_bound digits (Send place port value) = 2
  act_bound digits (Recv place port) = 1
  act_bound digits (If place condition first second valued) = 1 + (body_bound digits first + body_bound digits second)
  act_bound digits (When place condition first) = 1 + body_bound digits first
  act_bound digits (Block place inner) = body_bound digits inner
  act_bound digits (Wait place variable) = 1
  act_bound digits (Pure place value) = 0
  act_bound digits (Nothing place) = 0

abbrev pub threads_bound : (digits : ℕ → ℕ) → List Thread → ℕ
threads_bound digits [] = 0
threads_bound digits (thread ∷ rest) = (1 + body_bound digits thread.body) + threads_bound digits rest

abbrev pub registers_bits : List Register → ℕ
registers_bits [] = 0
registers_bits (register ∷ rest) = register.width + registers_bits rest

-- of a process, with the widths of its registers
abbrev pub process_bound : (digits : ℕ → ℕ) → Process → ℕ
process_bound digits p = registers_bits p.registers + threads_bound digits p.threads

-- What a machine keeps: of a node, by its form
abbrev pub node_bits : {P : Type 0} → (digits : ℕ → ℕ) → Form P → ℕ
node_bits digits Start = 0
node_bits digits (Same from) = 0
node_bits digits (After delay from) = digits delay
node_bits digits (Sync from) = 1
node_bits digits (Join first second) = 1
node_bits digits (Side from) = 0
node_bits digits (Merge first second) = 0

-- of those nodes below a count for which it keeps registers
abbrev pub nodes_bits : (digits : ℕ → ℕ) → (form : ℕ → Form ℕ) → (kept : ℕ → Bool) → (count : ℕ) → ℕ
nodes_bits digits form kept zero = 0
nodes_bits digits form kept (suc node) =
    (if kept node then node_bits digits (form node) else 0) + nodes_bits digits form kept node

-- of the acts: the latest side of an `if`, and of a `send` that it began last
abbrev mutual
  pub acts_bits : Term → ℕ
  acts_bits (One act) = act_bits act
  acts_bits (Then act rest) = act_bits act + acts_bits rest
  acts_bits (Both act rest) = act_bits act + acts_bits rest

  pub act_bits : Act → ℕ
  act_bits (Send place port value) = 1
  act_bits (If place condition first second valued) = 1 + (acts_bits first + acts_bits second)
  act_bits (When place condition first) = 1 + acts_bits first
  act_bits (Block place inner) = acts_bits inner
  act_bits act = 0

-- of a thread, with its bit that it has started
abbrev pub thread_bits : (digits : ℕ → ℕ) → Term → (form : ℕ → Form ℕ) → (kept : ℕ → Bool) → (count : ℕ) → ℕ
thread_bits digits body form kept count = 1 + (nodes_bits digits form kept count + acts_bits body)

-- the nodes of a thread: their forms, the node of each point, for which of them registers are kept, and how many there
-- are
pub record ThreadNodes : Type 0 where
  pub form : (node : ℕ) → Form ℕ
  pub node_of : Spot → ℕ
  pub kept : (node : ℕ) → Bool
  pub count : ℕ

-- registers are kept for live nodes alone
abbrev pub KeepsLive : Term → ThreadNodes → Type 0
KeepsLive body nodes =
    (node : ℕ) → nodes.kept node ≡ true → (turn_graph body nodes.form nodes.node_of).live node ≡ true

-- of the threads from this number on
abbrev pub threads_bits : (digits : ℕ → ℕ) → (nodes : ℕ → ThreadNodes) → (first : ℕ) → List Thread → ℕ
threads_bits digits nodes first [] = 0
threads_bits digits nodes first (thread ∷ rest) =
    thread_bits digits thread.body (nodes first).form (nodes first).kept (nodes first).count
    + threads_bits digits nodes (suc first) rest

-- The bits of a thread are within its bound, whatever its nodes are.
abbrev pub ThreadBitsAreBounded : Type 0
ThreadBitsAreBounded =
    (digits : ℕ → ℕ) → digits 1 ≡ 1 → (body : Term) (nodes : ThreadNodes) → KeepsLive body nodes
    → thread_bits digits body nodes.form nodes.kept nodes.count ≤ 1 + body_bound digits body

-- So are those of a process.
abbrev pub StateBitsAreBounded : Type 0
StateBitsAreBounded =
    (digits : ℕ → ℕ) → digits 1 ≡ 1 → (p : Process) (nodes : ℕ → ThreadNodes)
    → ((number : ℕ) (thread : Thread) → IsThread p.threads number thread → KeepsLive thread.body (nodes number))
    → registers_bits p.registers + threads_bits digits nodes 0 p.threads ≤ process_bound digits p
