-- The end mark can stand only between items, and the file has ended then: at each other state the step of an end mark is unexpected,
-- by cases on the state and its stack. Closed tokens have the end mark at their end and nowhere else, so a reading of them that comes
-- to a state has come to the end of a file.
use Rattle.std.proofs.Common.{◌≡◌, List, [], ◌∷◌, ◌∙◌, refl, ap}
use Rattle.anvil_lexer.specs.declared.token.Token.{Token}
use Rattle.anvil_lexer.specs.declared.token.TokenKind.{TokenKind}
use Rattle.anvil_lexer.specs.declared.token.TokenKind.TheVariants.{End}
use Rattle.anvil_lexer.specs.TokenText.{AreClosed}
use Rattle.anvil_tree.specs.Tree.{Expr, Act, File}
use Rattle.anvil_grammar.specs.Begun.{Begin}
use Rattle.anvil_grammar.specs.State as states
use Rattle.anvil_grammar.specs.State.{WidthState, MessageState, ClassState, Frame, ThreadState, EndpointState, RegisterState, ProcessState, State}
use Rattle.anvil_grammar.specs.Step.{Step, unexpected, onward, width_step_by, message_step_by, class_step_by, act_step, expression_step, operand_ends, inner_step, thread_step_at, endpoint_step_by, register_step_by, process_step_by, step, walk, Walk, stands}
use Rattle.anvil_grammar.proofs.Walk.Joined.{first_stands}

module _ (token : Token) (is : token.kind ≡ End) where
  at_end : {P R : Type 0} (by : TokenKind → Step P R) → by End ≡ unexpected → by token.kind ≡ unexpected
  at_end by same = ap by is ∙ same

  width_end : (state : WidthState) → width_step_by state token End ≡ unexpected
  width_end states.logic_wanted = refl
  width_end state = refl

  message_end : (state : MessageState) → message_step_by state token End ≡ unexpected
  message_end (states.message_width side label state) = rw (width_end state) refl
  message_end state = refl

  class_end : (state : ClassState) → class_step_by state token End ≡ unexpected
  class_end (states.in_message draft state) = rw (at_end (message_step_by state token) (message_end state)) refl
  class_end state = refl

  act_end : (stack : List Frame) (act : Act) → act_step stack act End ≡ unexpected
  act_end (states.binding name ∷ stack) act = refl
  act_end stack act = refl

  expression_end : (stack : List Frame) (expr : Expr) → expression_step stack expr End ≡ unexpected
  expression_end (states.setting at register ∷ stack) expr = act_end stack _
  expression_end (states.evaluating ∷ stack) expr = act_end stack _
  expression_end stack expr = refl

  operand_end : (stack : List Frame) (operand : Expr) → operand_ends stack operand token ≡ unexpected
  operand_end stack operand = rw is (expression_end _ _)

  inner_end : (stack : List Frame) (state : ThreadState) → inner_step stack state token End ≡ unexpected
  inner_end stack states.let_name = refl
  inner_end stack state = refl

  thread_end : (stack : List Frame) (state : ThreadState) → thread_step_at stack state token ≡ unexpected
  thread_end stack states.term_wanted = rw is refl
  thread_end stack states.act_wanted = rw is refl
  thread_end stack states.operand_wanted = rw is refl
  thread_end stack (states.parenthesis_opened at) = rw is refl
  thread_end stack (states.after_word at name) = rw is (expression_end _ _)
  thread_end stack (states.after_operand operand) = operand_end stack operand
  thread_end stack (states.after_act act) = rw is (act_end stack act)
  thread_end stack (states.after_first at condition first) = rw is (act_end stack _)
  thread_end stack state = rw is (inner_end stack state)

  endpoint_end : (state : EndpointState) → endpoint_step_by state token End ≡ unexpected
  endpoint_end (states.endpoint_colon label) = refl
  endpoint_end state = refl

  register_end : (state : RegisterState) → register_step_by state token End ≡ unexpected
  register_end (states.register_width label state) = rw (width_end state) refl
  register_end state = refl

  process_end : (state : ProcessState) → process_step_by state token End ≡ unexpected
  process_end (states.in_endpoint draft state) = rw (at_end (endpoint_step_by state token) (endpoint_end state)) refl
  process_end (states.in_register draft state) = rw (at_end (register_step_by state token) (register_end state)) refl
  process_end (states.in_thread draft reading) = rw (thread_end reading.stack reading.state) refl
  process_end state = refl

  -- the end of a file
  end_comes : (state next : State) (begun : List Begin) → step state token ≡ onward begun next → (file : File) × (next ≡ states.ended file)
  end_comes (states.between items) next begun stepped =
      let came = rw is at stepped in
      (items, cc)
  end_comes (states.in_class items state) next begun stepped =
      let came = rw (at_end (class_step_by state token) (class_end state)) at stepped in
      absurd cc
  end_comes (states.in_process items state) next begun stepped =
      let came = rw (at_end (process_step_by state token) (process_end state)) at stepped in
      absurd cc
  end_comes (states.ended items) next begun stepped = absurd cc

pub closed_walk_ends : (tokens : List Token) (from state : State) (begun : List Begin) → AreClosed tokens → walk from tokens ≡ record { begun = begun; stop = stands state }
    → (file : File) × (state ≡ states.ended file)
closed_walk_ends [] from state begun closed walked = absurd closed
closed_walk_ends (token ∷ []) from state begun closed walked =
    let one = first_stands from token [] begun state walked in
    let stop : stands one.next ≡ stands state = ap (λ (w : Walk). w.stop) one.walked in
    let same : state ≡ one.next = cc in
    let end = end_comes token closed from one.next one.first one.stepped in
    (end.0, same ∙ end.1)
closed_walk_ends (token ∷ next ∷ tokens) from state begun closed walked =
    let one = first_stands from token (next ∷ tokens) begun state walked in
    closed_walk_ends (next ∷ tokens) one.next state one.others closed.1 one.walked
