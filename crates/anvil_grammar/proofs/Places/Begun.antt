-- At which places things begin: what a token begins has the place of the token, but for a `()`, which `)` begins at the place of the
-- `(` just before. So a property of places that the token has, and where it is a `)` the pending `(` too, holds of all that begins by
-- the token, and of the `(` that is pending after it.
use Rattle.std.proofs.Common.{◌≡◌, ℕ, Bool, true, false, List, [], ◌∷◌, Option, Some, None, refl, subst}
use Rattle.std.specs.Prelude.{⊤, ◌==◌, if◌then◌else◌}
use Rattle.anvil_lexer.specs.declared.token.Token.{Token}
use Rattle.anvil_lexer.specs.declared.token.TokenKind.{TokenKind}
use Rattle.anvil_lexer.specs.declared.token.TokenKind.TheVariants.{Key, Word, Number, Literal, Mark, End}
use Rattle.anvil_lexer.specs.declared.token.Keyword.TheVariants as key
use Rattle.anvil_lexer.specs.declared.token.Mark.TheVariants as mark
use Rattle.anvil_tree.specs.declared.expr.BinOp.{BinOp}
use Rattle.anvil_tree.specs.declared.file.Side.{Side}
use Rattle.anvil_tree.specs.Tree as tree
use Rattle.anvil_tree.specs.Places.{place_of_expr}
use Rattle.anvil_tree.specs.Tree.{Name, Expr, Term, Act, File}
use Rattle.anvil_grammar.specs.Words.{function_of, side_of}
use Rattle.anvil_grammar.specs.Begun.{Begin}
use Rattle.anvil_grammar.specs.State as states
use Rattle.anvil_grammar.specs.State.{Label, WidthState, MessageState, ClassDraft, ClassState, Frame, ThreadState, ThreadReading, EndpointState, RegisterState, ProcessDraft, ProcessState, State}
use Rattle.anvil_grammar.specs.Step.{Step, unexpected, onward, finished, within, width_step_by, message_step_by, side_step, class_step_by, strength, operator_at, Threaded, function_step, operand_step, term_ends, act_step, expression_step, compares, operator_step, operand_ends, word_step, parenthesis_step, begins_act, begin_step_by, begin_step, term_step, else_step, inner_step, thread_step_at, endpoint_side_step, endpoint_step_by, register_step_by, process_step_by, item_step, step}

-- all of the things have a place with the property
abbrev pub AllAt : (ℕ → Type 0) → List Begin → Type 0
AllAt P [] = ⊤
AllAt P (begin ∷ begun) = P begin.at × AllAt P begun

-- what begins by a token, and where the reading stands then
abbrev pub Placed : {Q R : Type 0} → (ℕ → Type 0) → (Q → Type 0) → Step Q R → Type 0
Placed P Good unexpected = ⊤
Placed P Good (onward begun next) = AllAt P begun × Good next
Placed P Good (finished result) = ⊤

-- the place of a `(` that is pending
abbrev pub Pending : (ℕ → Type 0) → ThreadState → Type 0
Pending P (states.parenthesis_opened at) = P at
Pending P state = ⊤

abbrev pub PendingIn : (ℕ → Type 0) → ProcessState → Type 0
PendingIn P (states.in_thread draft reading) = Pending P reading.state
PendingIn P state = ⊤

abbrev pub Pends : (ℕ → Type 0) → State → Type 0
Pends P (states.in_process items state) = PendingIn P state
Pends P state = ⊤

abbrev Quiet : {Q : Type 0} → Q → Type 0
Quiet next = ⊤

within_placed : {Q R S U : Type 0} (P : ℕ → Type 0) (Good : Q → Type 0) (Outer : S → Type 0) (inside : Q → S) (outside : R → Step S U) (one : Step Q R)
    → ((next : Q) → Good next → Outer (inside next)) → ((result : R) → Placed P Outer (outside result)) → Placed P Good one
    → Placed P Outer (within inside outside one)
within_placed P Good Outer inside outside unexpected kept ended placed = tt
within_placed P Good Outer inside outside (onward begun next) kept ended placed = (placed.0, kept next placed.1)
within_placed P Good Outer inside outside (finished result) kept ended placed = ended result

either_placed : {Q R : Type 0} (P : ℕ → Type 0) (Good : Q → Type 0) (test : Bool) (one other : Step Q R) → Placed P Good one → Placed P Good other
    → Placed P Good (if test then one else other)
either_placed P Good true one other first second = first
either_placed P Good false one other first second = second

module _ (P : ℕ → Type 0) (token : Token) (here : P token.at) where
  width_placed : (state : WidthState) (kind : TokenKind) → Placed P Quiet (width_step_by state token kind)
  width_placed states.logic_wanted (Key key.Logic) = (tt, tt)
  width_placed states.width_opening (Mark mark.OpenBracket) = (tt, tt)
  width_placed states.width_number (Number width) = (tt, tt)
  width_placed (states.width_closing width) (Mark mark.CloseBracket) = tt
  width_placed state kind = tt

  message_placed : (state : MessageState) (kind : TokenKind) → Placed P Quiet (message_step_by state token kind)
  message_placed (states.message_name side) (Word name) = (tt, tt)
  message_placed (states.message_colon side label) (Mark mark.Colon) = (tt, tt)
  message_placed (states.message_opening side label) (Mark mark.OpenParen) = (tt, tt)
  message_placed (states.message_width side label state) kind = within_placed P Quiet Quiet _ _ _ (λ next good. tt) (λ result. (tt, tt)) (width_placed state kind)
  message_placed (states.message_at side label width) (Mark mark.At) = (tt, tt)
  message_placed (states.message_life side label width) (Mark mark.Hash) = (tt, tt)
  message_placed (states.message_life side label width) (Word name) = (tt, tt)
  message_placed (states.message_count side label width) (Number count) = (tt, tt)
  message_placed (states.message_closing message) (Mark mark.CloseParen) = tt
  message_placed state kind = tt

  side_placed : (draft : ClassDraft) (found : Option Side) → Placed P Quiet (side_step draft token found)
  side_placed draft (Some side) = ((here, tt), tt)
  side_placed draft None = tt

  class_placed : (state : ClassState) (kind : TokenKind) → Placed P Quiet (class_step_by state token kind)
  class_placed states.class_name (Word name) = (tt, tt)
  class_placed (states.class_opening label) (Mark mark.OpenBrace) = (tt, tt)
  class_placed (states.first_message draft) kind = side_placed draft (side_of kind)
  class_placed (states.in_message draft state) kind = within_placed P Quiet Quiet _ _ _ (λ next good. tt) (λ result. (tt, tt)) (message_placed state token.kind)
  class_placed (states.after_message draft) (Mark mark.Comma) = (tt, tt)
  class_placed (states.after_message draft) (Mark mark.CloseBrace) = tt
  class_placed (states.after_comma draft) (Mark mark.CloseBrace) = tt
  class_placed (states.after_comma draft) kind = side_placed draft (side_of kind)
  class_placed state kind = tt

  -- in a thread
  abbrev After : ThreadReading → Type 0
  After reading = Pending P reading.state

  function_placed : (stack : List Frame) (found : Option BinOp) → Placed P After (function_step stack token found)
  function_placed stack (Some operator) = ((here, tt), tt)
  function_placed stack None = tt

  operand_placed : (stack : List Frame) (kind : TokenKind) → Placed P After (operand_step stack token kind)
  operand_placed stack (Mark mark.Tilde) = ((here, tt), tt)
  operand_placed stack (Mark mark.Star) = ((here, tt), tt)
  operand_placed stack (Literal width value) = ((here, tt), tt)
  operand_placed stack (Word name) = ((here, tt), tt)
  operand_placed stack (Mark mark.OpenParen) = (tt, here)
  operand_placed stack kind = function_placed stack (function_of kind)

  term_ends_placed : (stack : List Frame) (term : Term) → Placed P After (term_ends stack term)
  term_ends_placed [] term = tt
  term_ends_placed (states.following bound act ∷ stack) term = term_ends_placed stack _
  term_ends_placed (states.besides bound act ∷ stack) term = term_ends_placed stack _
  term_ends_placed (states.first_side at condition ∷ stack) term = (tt, tt)
  term_ends_placed (states.second_side at condition first ∷ stack) term = (tt, tt)
  term_ends_placed (states.blocking at ∷ stack) term = (tt, tt)
  term_ends_placed (frame ∷ stack) term = tt

  act_placed : (stack : List Frame) (act : Act) (kind : TokenKind) → Placed P After (act_step stack act kind)
  act_placed (states.binding name ∷ stack) act (Mark mark.Chain) = (tt, tt)
  act_placed (states.binding name ∷ stack) act (Mark mark.Semicolon) = (tt, tt)
  act_placed (states.binding name ∷ stack) act kind = tt
  act_placed stack act (Mark mark.Chain) = (tt, tt)
  act_placed stack act (Mark mark.Semicolon) = (tt, tt)
  act_placed stack act (Mark mark.CloseBrace) = term_ends_placed stack (tree.single act)
  act_placed stack act kind = tt

  expression_placed : (stack : List Frame) (expr : Expr) (kind : TokenKind) → Placed P After (expression_step stack expr kind)
  expression_placed (states.grouping ∷ stack) expr (Mark mark.CloseParen) = (tt, tt)
  expression_placed (states.calling operator at ∷ stack) expr (Mark mark.Comma) = (tt, tt)
  expression_placed (states.calling_second operator at first ∷ stack) expr (Mark mark.CloseParen) = (tt, tt)
  expression_placed (states.choosing at condition ∷ stack) expr (Mark mark.Colon) = (tt, tt)
  expression_placed (states.setting at register ∷ stack) expr kind = act_placed stack (tree.set at register.name register.at expr) kind
  expression_placed (states.sending at endpoint message ∷ stack) expr (Mark mark.CloseParen) = (tt, tt)
  expression_placed (states.deciding at ∷ stack) expr (Mark mark.OpenBrace) = (tt, tt)
  expression_placed (states.evaluating ∷ stack) expr kind = act_placed stack (tree.pure (place_of_expr expr) expr) kind
  expression_placed stack expr kind = tt

  operator_placed : (stack : List Frame) (operand : Expr) (found : Option BinOp) → Placed P After (operator_step stack operand token found)
  operator_placed stack operand (Some operator) = either_placed P After (compares stack operator) unexpected _ tt ((here, tt), tt)
  operator_placed stack operand None = either_placed P After (strength token.kind == 1) _ _ ((here, tt), tt) (expression_placed stack operand token.kind)

  ends_placed : (stack : List Frame) (operand : Expr) → Placed P After (operand_ends stack operand token)
  ends_placed stack operand = operator_placed _ _ (operator_at token.kind)

  word_placed : (stack : List Frame) (at : ℕ) (name : Name) (kind : TokenKind) → Placed P After (word_step stack at name token kind)
  word_placed stack at name (Mark mark.OpenBracket) = (tt, tt)
  word_placed stack at name kind = ends_placed stack _

  parenthesis_placed : (stack : List Frame) (at : ℕ) (kind : TokenKind) → (kind ≡ Mark mark.CloseParen → P at) → Placed P After (parenthesis_step stack at token kind)
  parenthesis_placed stack at (Mark mark.CloseParen) pending = ((pending refl, tt), tt)
  parenthesis_placed stack at kind pending = operand_placed (states.grouping ∷ stack) kind

  begins_placed : (one : Threaded) → Placed P After one → Placed P After (begins_act token one)
  begins_placed unexpected placed = tt
  begins_placed (onward begun next) placed = ((here, placed.0), placed.1)
  begins_placed (finished term) placed = tt

  begin_by_placed : (stack : List Frame) (kind : TokenKind) → Placed P After (begin_step_by stack token kind)
  begin_by_placed stack (Key key.Cycle) = (tt, tt)
  begin_by_placed stack (Key key.Set) = (tt, tt)
  begin_by_placed stack (Key key.Send) = (tt, tt)
  begin_by_placed stack (Key key.Recv) = (tt, tt)
  begin_by_placed stack (Key key.If) = (tt, tt)
  begin_by_placed stack (Mark mark.OpenBrace) = (tt, tt)
  begin_by_placed stack kind = operand_placed (states.evaluating ∷ stack) kind

  begin_placed : (stack : List Frame) (kind : TokenKind) → Placed P After (begin_step stack token kind)
  begin_placed stack kind = begins_placed (begin_step_by stack token kind) (begin_by_placed stack kind)

  term_placed : (stack : List Frame) (kind : TokenKind) → Placed P After (term_step stack token kind)
  term_placed stack (Key key.Let) = (tt, tt)
  term_placed stack kind = begin_placed stack kind

  else_placed : (stack : List Frame) (at : ℕ) (condition : Expr) (first : Term) (kind : TokenKind) → Placed P After (else_step stack at condition first kind)
  else_placed stack at condition first (Key key.Else) = (tt, tt)
  else_placed stack at condition first kind = act_placed stack (tree.when at condition first) kind

  inner_placed : (stack : List Frame) (state : ThreadState) (kind : TokenKind) → Placed P After (inner_step stack state token kind)
  inner_placed stack states.let_name (Word name) = (tt, tt)
  inner_placed stack (states.let_equals name) (Mark mark.Equals) = (tt, tt)
  inner_placed stack (states.cycle_count at) (Number count) = (tt, tt)
  inner_placed stack (states.set_register at) (Word name) = (tt, tt)
  inner_placed stack (states.set_assign at register) (Mark mark.Assign) = (tt, tt)
  inner_placed stack (states.send_endpoint at) (Word name) = (tt, tt)
  inner_placed stack (states.send_dot at endpoint) (Mark mark.Dot) = (tt, tt)
  inner_placed stack (states.send_message at endpoint) (Word name) = (tt, tt)
  inner_placed stack (states.send_opening at endpoint message) (Mark mark.OpenParen) = (tt, tt)
  inner_placed stack (states.receive_endpoint at) (Word name) = (tt, tt)
  inner_placed stack (states.receive_dot at endpoint) (Mark mark.Dot) = (tt, tt)
  inner_placed stack (states.receive_message at endpoint) (Word name) = (tt, tt)
  inner_placed stack (states.else_opening at condition first) (Mark mark.OpenBrace) = (tt, tt)
  inner_placed stack (states.shown_register at) (Word name) = (tt, tt)
  inner_placed stack (states.call_opening operator at) (Mark mark.OpenParen) = (tt, tt)
  inner_placed stack (states.slice_high at name) (Number high) = (tt, tt)
  inner_placed stack (states.slice_colon at name high) (Mark mark.Colon) = (tt, tt)
  inner_placed stack (states.slice_low at name high) (Number low) = (tt, tt)
  inner_placed stack (states.slice_closing at name high low) (Mark mark.CloseBracket) = (tt, tt)
  inner_placed stack state kind = tt

  thread_placed : (stack : List Frame) (state : ThreadState) → (token.kind ≡ Mark mark.CloseParen → Pending P state) → Placed P After (thread_step_at stack state token)
  thread_placed stack states.term_wanted pending = term_placed stack token.kind
  thread_placed stack states.act_wanted pending = begin_placed stack token.kind
  thread_placed stack states.operand_wanted pending = operand_placed stack token.kind
  thread_placed stack (states.parenthesis_opened at) pending = parenthesis_placed stack at token.kind pending
  thread_placed stack (states.after_word at name) pending = word_placed stack at name token.kind
  thread_placed stack (states.after_operand operand) pending = ends_placed stack operand
  thread_placed stack (states.after_act act) pending = act_placed stack act token.kind
  thread_placed stack (states.after_first at condition first) pending = else_placed stack at condition first token.kind
  thread_placed stack state pending = inner_placed stack state token.kind

  -- in a process
  endpoint_side_placed : (label : Label) (found : Option Side) → Placed P Quiet (endpoint_side_step label found)
  endpoint_side_placed label (Some side) = (tt, tt)
  endpoint_side_placed label None = tt

  endpoint_placed : (state : EndpointState) (kind : TokenKind) → Placed P Quiet (endpoint_step_by state token kind)
  endpoint_placed (states.endpoint_colon label) (Mark mark.Colon) = (tt, tt)
  endpoint_placed (states.endpoint_side label) kind = endpoint_side_placed label (side_of kind)
  endpoint_placed (states.endpoint_class label side) (Word name) = tt
  endpoint_placed state kind = tt

  register_placed : (state : RegisterState) (kind : TokenKind) → Placed P Quiet (register_step_by state token kind)
  register_placed states.register_name (Word name) = (tt, tt)
  register_placed (states.register_colon label) (Mark mark.Colon) = (tt, tt)
  register_placed (states.register_width label state) kind = within_placed P Quiet Quiet _ _ _ (λ next good. tt) (λ result. (tt, tt)) (width_placed state kind)
  register_placed (states.register_reset label width) (Mark mark.Equals) = (tt, tt)
  register_placed (states.register_reset label width) (Mark mark.Semicolon) = tt
  register_placed (states.register_literal label width) (Literal bits value) = (tt, tt)
  register_placed (states.register_end register) (Mark mark.Semicolon) = tt
  register_placed state kind = tt

  process_placed : (state : ProcessState) (kind : TokenKind) → (token.kind ≡ Mark mark.CloseParen → PendingIn P state) → Placed P (PendingIn P) (process_step_by state token kind)
  process_placed states.process_name (Word name) pending = (tt, tt)
  process_placed (states.process_opening label) (Mark mark.OpenParen) pending = (tt, tt)
  process_placed (states.first_endpoint draft) (Word name) pending = ((here, tt), tt)
  process_placed (states.first_endpoint draft) (Mark mark.CloseParen) pending = (tt, tt)
  process_placed (states.next_endpoint draft) (Word name) pending = ((here, tt), tt)
  process_placed (states.in_endpoint draft state) kind pending =
      within_placed P Quiet (PendingIn P) _ _ _ (λ next good. tt) (λ result. (tt, tt)) (endpoint_placed state token.kind)
  process_placed (states.after_endpoint draft) (Mark mark.Comma) pending = (tt, tt)
  process_placed (states.after_endpoint draft) (Mark mark.CloseParen) pending = (tt, tt)
  process_placed (states.body_opening draft) (Mark mark.OpenBrace) pending = (tt, tt)
  process_placed (states.registers_wanted draft) (Key key.Reg) pending = ((here, tt), tt)
  process_placed (states.registers_wanted draft) (Key key.Loop) pending = ((here, tt), tt)
  process_placed (states.registers_wanted draft) (Mark mark.CloseBrace) pending = tt
  process_placed (states.in_register draft state) kind pending =
      within_placed P Quiet (PendingIn P) _ _ _ (λ next good. tt) (λ result. (tt, tt)) (register_placed state token.kind)
  process_placed (states.threads_wanted draft) (Key key.Loop) pending = ((here, tt), tt)
  process_placed (states.threads_wanted draft) (Mark mark.CloseBrace) pending = tt
  process_placed (states.thread_opening draft) (Mark mark.OpenBrace) pending = (tt, tt)
  process_placed (states.in_thread draft reading) kind pending =
      within_placed P After (PendingIn P) _ _ _ (λ next good. good) (λ result. (tt, tt)) (thread_placed reading.stack reading.state pending)
  process_placed state kind pending = tt

  item_placed : (items : File) (kind : TokenKind) → Placed P (Pends P) (item_step items token kind)
  item_placed items (Key key.Chan) = ((here, tt), tt)
  item_placed items (Key key.Proc) = ((here, tt), tt)
  item_placed items End = (tt, tt)
  item_placed items kind = tt

  step_placed : (state : State) → (token.kind ≡ Mark mark.CloseParen → Pends P state) → Placed P (Pends P) (step state token)
  step_placed (states.between items) pending = item_placed items token.kind
  step_placed (states.in_class items state) pending =
      within_placed P Quiet (Pends P) _ _ _ (λ next good. tt) (λ result. (tt, tt)) (class_placed state token.kind)
  step_placed (states.in_process items state) pending =
      within_placed P (PendingIn P) (Pends P) _ _ _ (λ next good. good) (λ result. (tt, tt)) (process_placed state token.kind pending)
  step_placed (states.ended items) pending = tt

-- where the token can stand
pub stepped_placed : (P : ℕ → Type 0) (token : Token) (state next : State) (begun : List Begin) → P token.at → (token.kind ≡ Mark mark.CloseParen → Pends P state)
    → step state token ≡ onward begun next → AllAt P begun × Pends P next
stepped_placed P token state next begun here pending same = subst (λ s. Placed P (Pends P) s) same (step_placed P token here state pending)
