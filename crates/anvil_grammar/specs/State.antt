-- Where the reading of a file stands between two tokens: what has been read of each part that is begun, and which token
-- may come next. A part that holds others waits in a frame of a stack while one of them is read; so the reading needs
-- no recursion.
use Rattle.std.specs.Prelude.{ℕ, List, [], Option}
use Rattle.anvil_tree.specs.declared.expr.BinOp.{BinOp}
use Rattle.anvil_tree.specs.declared.file.Side.{Side}
use Rattle.anvil_tree.specs.declared.file.Endpoint.{Endpoint}
use Rattle.anvil_tree.specs.declared.file.Message.{Message}
use Rattle.anvil_tree.specs.declared.file.Register.{Register}
use Rattle.anvil_tree.specs.Tree.{Name, Expr, Term, Act, File}

-- a name with its place
pub record Label : Type 0 where
  pub name : Name
  pub at : ℕ

-- a width in bits with its place
pub record Width : Type 0 where
  pub width : ℕ
  pub width_at : ℕ

-- in `logic [ width ]`
pub data WidthState : Type 0 where
  logic_wanted : WidthState
  width_opening : WidthState
  width_number : WidthState
  width_closing : Width → WidthState

-- Classes.

-- in a message, behind its side
pub data MessageState : Type 0 where
  message_name : Side → MessageState
  message_colon : Side → Label → MessageState
  message_opening : Side → Label → MessageState
  message_width : Side → Label → WidthState → MessageState
  message_at : Side → Label → Width → MessageState
  message_life : Side → Label → Width → MessageState
  message_count : Side → Label → Width → MessageState
  message_closing : Message → MessageState

-- a class up to some message
pub record ClassDraft : Type 0 where
  pub label : Label
  pub messages : List Message

-- in a class, behind `chan`
pub data ClassState : Type 0 where
  class_name : ClassState
  class_opening : Label → ClassState
  first_message : ClassDraft → ClassState
  in_message : ClassDraft → MessageState → ClassState
  after_message : ClassDraft → ClassState
  after_comma : ClassDraft → ClassState

-- Threads.

-- what waits for a part of it
pub data Frame : Type 0 where
  -- for an operand or an expression
  inverting : (at : ℕ) → Frame
  operating : (operator : BinOp) (at : ℕ) (left : Expr) → Frame
  grouping : Frame
  calling : (operator : BinOp) (at : ℕ) → Frame
  calling_second : (operator : BinOp) (at : ℕ) (first : Expr) → Frame
  choosing : (at : ℕ) (condition : Expr) → Frame
  choosing_second : (at : ℕ) (condition first : Expr) → Frame
  setting : (at : ℕ) (register : Label) → Frame
  sending : (at : ℕ) (endpoint message : Label) → Frame
  deciding : (at : ℕ) → Frame
  evaluating : Frame
  -- for a term
  following : (bound : Option Name) (act : Act) → Frame
  besides : (bound : Option Name) (act : Act) → Frame
  first_side : (at : ℕ) (condition : Expr) → Frame
  second_side : (at : ℕ) (condition : Expr) (first : Term) → Frame
  blocking : (at : ℕ) → Frame
  -- for an act
  binding : (name : Name) → Frame

-- in the innermost part that is begun
pub data ThreadState : Type 0 where
  term_wanted : ThreadState
  let_name : ThreadState
  let_equals : (name : Name) → ThreadState
  act_wanted : ThreadState
  cycle_count : (at : ℕ) → ThreadState
  set_register : (at : ℕ) → ThreadState
  set_assign : (at : ℕ) (register : Label) → ThreadState
  send_endpoint : (at : ℕ) → ThreadState
  send_dot : (at : ℕ) (endpoint : Label) → ThreadState
  send_message : (at : ℕ) (endpoint : Label) → ThreadState
  send_opening : (at : ℕ) (endpoint message : Label) → ThreadState
  receive_endpoint : (at : ℕ) → ThreadState
  receive_dot : (at : ℕ) (endpoint : Label) → ThreadState
  receive_message : (at : ℕ) (endpoint : Label) → ThreadState
  after_act : (act : Act) → ThreadState
  after_first : (at : ℕ) (condition : Expr) (first : Term) → ThreadState
  else_opening : (at : ℕ) (condition : Expr) (first : Term) → ThreadState
  operand_wanted : ThreadState
  shown_register : (at : ℕ) → ThreadState
  parenthesis_opened : (at : ℕ) → ThreadState
  call_opening : (operator : BinOp) (at : ℕ) → ThreadState
  after_word : (at : ℕ) (name : Name) → ThreadState
  slice_high : (at : ℕ) (name : Name) → ThreadState
  slice_colon : (at : ℕ) (name : Name) (high : ℕ) → ThreadState
  slice_low : (at : ℕ) (name : Name) (high : ℕ) → ThreadState
  slice_closing : (at : ℕ) (name : Name) (high low : ℕ) → ThreadState
  after_operand : (operand : Expr) → ThreadState

-- in a thread, behind its `{`
pub record ThreadReading : Type 0 where
  pub stack : List Frame
  pub state : ThreadState

-- Processes.

-- in an endpoint, behind its name
pub data EndpointState : Type 0 where
  endpoint_colon : Label → EndpointState
  endpoint_side : Label → EndpointState
  endpoint_class : Label → Side → EndpointState

-- in a register, behind `reg`
pub data RegisterState : Type 0 where
  register_name : RegisterState
  register_colon : Label → RegisterState
  register_width : Label → WidthState → RegisterState
  register_reset : Label → Width → RegisterState
  register_literal : Label → Width → RegisterState
  register_end : Register → RegisterState

-- a process up to some endpoint, register or thread
pub record ProcessDraft : Type 0 where
  pub label : Label
  pub endpoints : List Endpoint
  pub registers : List Register
  pub threads : List Term

-- in a process, behind `proc`
pub data ProcessState : Type 0 where
  process_name : ProcessState
  process_opening : Label → ProcessState
  first_endpoint : ProcessDraft → ProcessState
  next_endpoint : ProcessDraft → ProcessState
  in_endpoint : ProcessDraft → EndpointState → ProcessState
  after_endpoint : ProcessDraft → ProcessState
  body_opening : ProcessDraft → ProcessState
  registers_wanted : ProcessDraft → ProcessState
  in_register : ProcessDraft → RegisterState → ProcessState
  threads_wanted : ProcessDraft → ProcessState
  thread_opening : ProcessDraft → ProcessState
  in_thread : ProcessDraft → ThreadReading → ProcessState

-- Files, with the items that are whole.
pub data State : Type 0 where
  between : File → State
  in_class : File → ClassState → State
  in_process : File → ProcessState → State
  ended : File → State

abbrev pub start : State
start = between []
