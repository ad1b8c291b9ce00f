-- Each step inside a thread keeps what the state says of the tokens: one clause for each clause of the step. At the tokens
-- that a step does not expect there is nothing to show.
use Rattle.std.proofs.Common.{ℕ, List, ◌∷◌, refl}
use Rattle.anvil_lexer.specs.declared.token.Token.{Token}
use Rattle.anvil_lexer.specs.declared.token.TokenKind.{TokenKind}
use Rattle.anvil_lexer.specs.declared.token.TokenKind.TheVariants.{Key, Word, Number, Mark}
use Rattle.anvil_lexer.specs.declared.token.Keyword.TheVariants as key
use Rattle.anvil_lexer.specs.declared.token.Mark.TheVariants as mark
use Rattle.anvil_tree.specs.declared.expr.BinOp.{BinOp}
use Rattle.anvil_tree.specs.Tree as tree
use Rattle.anvil_tree.specs.Tree.{Name, Expr, Term, Act}
use Rattle.anvil_grammar.specs.Words.{Is}
use Rattle.anvil_grammar.specs.Grammar as grammar
use Rattle.anvil_grammar.specs.State as states
use Rattle.anvil_grammar.specs.State.{Label, Frame, ThreadState}
use Rattle.anvil_grammar.specs.Step.{unexpected, onward, finished, Threaded, begins_act, begin_step_by, term_step, inner_step, thread_step_at}
use Rattle.anvil_grammar.proofs.Kept.Waiting.{WantsTerm, in_second_side, in_block, WantsAct, unbound, bound, WantsOperand, called, setting, sending, deciding, evaluating, Reads, at_term, let_read, let_named, at_act, cycle_read, set_read, set_named, send_read, send_held, send_dotted, send_named, receive_read, receive_held, receive_dotted, act_read, first_read, else_read, at_operand, star_read, parenthesis_read, function_read, word_read, slice_opened, slice_topped, slice_parted, slice_bottomed, operand_read}
use Rattle.anvil_grammar.proofs.Kept.Term.{Good, act_good, else_good}
use Rattle.anvil_grammar.proofs.Kept.Expr.{operand_ends_good, word_good, operand_good, parenthesis_good}

begins_good : (first now : List Token) (token : Token) (step : Threaded) → Good first step now → Good first (begins_act token step) now
begins_good first now token unexpected good = good
begins_good first now token (onward begun reading) good = good
begins_good first now token (finished term) good = good

module _ {first : List Token} {token : Token} {now : List Token} where
  -- the last token of a straight part
  let_ends : {stack : List Frame} {name : Name} → Reads first stack (states.let_equals name) (token ∷ now) → Is (Mark mark.Equals) token
      → WantsAct first (states.binding name ∷ stack) now
  let_ends (let_named (let_read wants is_let) is_word) is = bound wants is_let is_word is

  cycle_ends : {stack : List Frame} {at count : ℕ} → Reads first stack (states.cycle_count at) (token ∷ now) → Is (Number count) token
      → Reads first stack (states.after_act (tree.cycle at count token.at)) now
  cycle_ends (cycle_read wants is_word) is = act_read wants (grammar.cycle is_word is)

  set_ends : {stack : List Frame} {at : ℕ} {register : Label} → Reads first stack (states.set_assign at register) (token ∷ now)
      → Is (Mark mark.Assign) token → WantsOperand first (states.setting at register ∷ stack) now
  set_ends (set_named (set_read wants is_word) is_target) is = setting wants is_word is_target is

  send_ends : {stack : List Frame} {at : ℕ} {endpoint message : Label} → Reads first stack (states.send_opening at endpoint message) (token ∷ now)
      → Is (Mark mark.OpenParen) token → WantsOperand first (states.sending at endpoint message ∷ stack) now
  send_ends (send_named (send_dotted (send_held (send_read wants is_word) is_holder) is_dot) is_sent) is = sending wants is_word is_holder is_dot is_sent is

  receive_ends : {stack : List Frame} {at : ℕ} {endpoint : Label} {name : Name} → Reads first stack (states.receive_message at endpoint) (token ∷ now)
      → Is (Word name) token → Reads first stack (states.after_act (tree.receive at endpoint.name endpoint.at name token.at)) now
  receive_ends (receive_dotted (receive_held (receive_read wants is_word) is_holder) is_dot) is = act_read wants (grammar.receive is_word is_holder is_dot is)

  else_ends : {stack : List Frame} {at : ℕ} {condition : Expr} {term : Term} → Reads first stack (states.else_opening at condition term) (token ∷ now)
      → Is (Mark mark.OpenBrace) token → WantsTerm first (states.second_side at condition term ∷ stack) now
  else_ends (else_read (first_read wants is_if is_condition is_opening is_term is_closing) is_else) is =
      in_second_side wants is_if is_condition is_opening is_term is_closing is_else is

  shown_ends : {stack : List Frame} {at : ℕ} {name : Name} → Reads first stack (states.shown_register at) (token ∷ now) → Is (Word name) token
      → Reads first stack (states.after_operand (tree.shown at name)) now
  shown_ends (star_read wants is_star) is = operand_read wants (grammar.shown is_star is)

  call_ends : {stack : List Frame} {at : ℕ} {operator : BinOp} → Reads first stack (states.call_opening operator at) (token ∷ now)
      → Is (Mark mark.OpenParen) token → WantsOperand first (states.calling operator at ∷ stack) now
  call_ends (function_read wants is_word) is = called wants is_word is

  slice_ends : {stack : List Frame} {at high low : ℕ} {name : Name} → Reads first stack (states.slice_closing at name high low) (token ∷ now)
      → Is (Mark mark.CloseBracket) token → Reads first stack (states.after_operand (tree.slice at name high low)) now
  slice_ends (slice_bottomed (slice_parted (slice_topped (slice_opened (word_read wants is_word) is_opening) is_top) is_colon) is_bottom) is =
      operand_read wants (grammar.slice is_word is_opening is_top is_colon is_bottom is)

  inner_good : (stack : List Frame) (state : ThreadState) → Reads first stack state (token ∷ now) → (kind : TokenKind) → Is kind token
      → Good first (inner_step stack state token kind) now
  inner_good stack states.let_name reads (Word name) is = let_named reads is
  inner_good stack (states.let_equals name) reads (Mark mark.Equals) is = at_act (let_ends reads is)
  inner_good stack (states.cycle_count at) reads (Number count) is = cycle_ends reads is
  inner_good stack (states.set_register at) reads (Word name) is = set_named reads is
  inner_good stack (states.set_assign at register) reads (Mark mark.Assign) is = at_operand (set_ends reads is)
  inner_good stack (states.send_endpoint at) reads (Word name) is = send_held reads is
  inner_good stack (states.send_dot at endpoint) reads (Mark mark.Dot) is = send_dotted reads is
  inner_good stack (states.send_message at endpoint) reads (Word name) is = send_named reads is
  inner_good stack (states.send_opening at endpoint message) reads (Mark mark.OpenParen) is = at_operand (send_ends reads is)
  inner_good stack (states.receive_endpoint at) reads (Word name) is = receive_held reads is
  inner_good stack (states.receive_dot at endpoint) reads (Mark mark.Dot) is = receive_dotted reads is
  inner_good stack (states.receive_message at endpoint) reads (Word name) is = receive_ends reads is
  inner_good stack (states.else_opening at condition term) reads (Mark mark.OpenBrace) is = at_term (else_ends reads is)
  inner_good stack (states.shown_register at) reads (Word name) is = shown_ends reads is
  inner_good stack (states.call_opening operator at) reads (Mark mark.OpenParen) is = at_operand (call_ends reads is)
  inner_good stack (states.slice_high at name) reads (Number high) is = slice_topped reads is
  inner_good stack (states.slice_colon at name high) reads (Mark mark.Colon) is = slice_parted reads is
  inner_good stack (states.slice_low at name high) reads (Number low) is = slice_bottomed reads is
  inner_good stack (states.slice_closing at name high low) reads (Mark mark.CloseBracket) is = slice_ends reads is
  inner_good stack state reads kind is = tt

  -- an act begins
  begin_good_by : {stack : List Frame} → WantsAct first stack (token ∷ now) → (kind : TokenKind) → Is kind token
      → Good first (begin_step_by stack token kind) now
  begin_good_by wants (Key key.Cycle) is = cycle_read wants is
  begin_good_by wants (Key key.Set) is = set_read wants is
  begin_good_by wants (Key key.Send) is = send_read wants is
  begin_good_by wants (Key key.Recv) is = receive_read wants is
  begin_good_by wants (Key key.If) is = at_operand (deciding wants is)
  begin_good_by wants (Mark mark.OpenBrace) is = at_term (in_block wants is)
  begin_good_by wants kind is = operand_good (evaluating wants) kind is

  begin_good : {stack : List Frame} → WantsAct first stack (token ∷ now) → (kind : TokenKind) → Is kind token
      → Good first (begins_act token (begin_step_by stack token kind)) now
  begin_good {stack = stack} wants kind is = begins_good first now token (begin_step_by stack token kind) (begin_good_by wants kind is)

  term_begins_good : {stack : List Frame} → WantsTerm first stack (token ∷ now) → (kind : TokenKind) → Is kind token
      → Good first (term_step stack token kind) now
  term_begins_good wants (Key key.Let) is = let_read wants is
  term_begins_good wants kind is = begin_good (unbound wants) kind is

  pub thread_good : {stack : List Frame} {state : ThreadState} → Reads first stack state (token ∷ now) → Good first (thread_step_at stack state token) now
  thread_good (at_term wants) = term_begins_good wants token.kind refl
  thread_good (at_act wants) = begin_good wants token.kind refl
  thread_good (at_operand wants) = operand_good wants token.kind refl
  thread_good {stack = stack} (parenthesis_read wants is) = parenthesis_good {stack = stack} (parenthesis_read wants is) token.kind refl
  thread_good (word_read wants is) = word_good (word_read wants is) token.kind refl
  thread_good (operand_read {operand = operand} wants is) = operand_ends_good wants operand is
  thread_good (act_read {act = act} wants is) = act_good act is wants token.kind refl
  thread_good (first_read wants is_if is_condition is_opening is_term is_closing) =
      else_good (first_read wants is_if is_condition is_opening is_term is_closing) token.kind refl
  thread_good {stack = stack} {state = state} reads = inner_good stack state reads token.kind refl
