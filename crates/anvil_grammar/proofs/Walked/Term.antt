-- What the grammar calls an act or a term is walked, where the next token ends it: reading an act comes to the state behind it,
-- and reading a term to what `}` does behind it. By induction on the cases of the grammar; the acts of a chain wait on the stack,
-- and the last act takes them one by one.
use Rattle.std.proofs.Common.{◌≡◌, ℕ, List, [], ◌∷◌, ◌++◌, true, Option, Some, None, refl, arith}
use Rattle.anvil_lexer.specs.declared.token.Token.{Token}
use Rattle.anvil_lexer.specs.declared.token.TokenKind.{TokenKind}
use Rattle.anvil_lexer.specs.declared.token.TokenKind.TheVariants.{Key, Word, Literal, Mark}
use Rattle.anvil_lexer.specs.declared.token.Keyword.TheVariants as key
use Rattle.anvil_lexer.specs.declared.token.Mark.TheVariants as mark
use Rattle.anvil_tree.specs.Tree as tree
use Rattle.anvil_tree.specs.Tree.{Name, Expr, Term, Act, File}
use Rattle.anvil_tree.specs.Places.{place_of_expr}
use Rattle.anvil_grammar.specs.declared.error.Counted.TheVariants as counted
use Rattle.anvil_grammar.specs.Grammar.{IsTerm, single, follow, beside, follow_bound, beside_bound, IsAct, cycle, set, send, receive, when, either, block, pure}
use Rattle.anvil_grammar.specs.Begun.{Begin}
use Rattle.anvil_grammar.specs.Limits.{first_begins, nodes, begun_in_act, begun_in_term}
use Rattle.anvil_grammar.specs.State.{Label, Frame, setting, sending, deciding, evaluating, following, besides, first_side, second_side, blocking, binding, ThreadState, term_wanted, act_wanted, after_act, after_first, operand_wanted, after_operand, ProcessDraft, start}
use Rattle.anvil_grammar.specs.Step.{operand_step, term_ends, begin_step, term_step, Walk, behind, walk, labelled}
use Rattle.anvil_grammar.proofs.Walked.Levels.{stops_at}
use Rattle.anvil_grammar.proofs.Walked.ExprNodes.{begin}
use Rattle.anvil_grammar.proofs.Walked.OperandFirst.{starts_operand, BeginsOperand, expr_begins}
use Rattle.anvil_grammar.proofs.Walked.Reading.{step_to, move_to, Comes, on, on_to, as_begun, reading, reading_on}
use Rattle.anvil_grammar.proofs.Walked.Expr.{expr_walked}
use Rattle.anvil_grammar.proofs.Walked.ActEnds.{EndsAct, EndsTerm, act_ends_at, term_ends_act, act_stops, set_ends, expression_ends, when_ends, Unbound, last_act, followed_act, act_beside}

-- no act begins with `let`
operand_no_let : (stack : List Frame) (token : Token) (kind : TokenKind) → starts_operand kind ≡ true → term_step stack token kind ≡ begin_step stack token kind
operand_no_let stack token (Key key.Let) starts = absurd cc
operand_no_let stack token kind starts = refl

-- the first token of an expression that is an act begins the act, and then what it begins in the expression
first_then : (from : List Token) (others : List Begin) → BeginsOperand from → first_begins counted.Act from [] ++ others ≡ first_begins counted.Act from others
first_then [] others begins = absurd begins
first_then (token ∷ from) others begins = refl

abbrev act_at : ℕ → List Begin
act_at at = begin counted.Act at ∷ []

-- in any thread of any process
module _ (items : File) (draft : ProcessDraft) where
  abbrev reads : List Frame → ThreadState → List Token → Walk
  reads = reading items draft

  abbrev Same : List Frame → ThreadState → List Token → List Frame → ThreadState → List Token → Type 0
  Same stack state from stack' state' rest = reads stack state from ≡ reads stack' state' rest

  abbrev Goes : List Frame → ThreadState → List Token → List Begin → List Frame → ThreadState → List Token → Type 0
  Goes stack state from these stack' state' rest = Comes (reads stack state from) these (reads stack' state' rest)

  -- an act that is an expression
  operand_act : (stack : List Frame) (token : Token) (kind : TokenKind) (rest : List Token) → starts_operand kind ≡ true
      → reading_on items draft (begin_step stack token kind) token rest
      ≡ behind (begin counted.Act token.at ∷ []) (reading_on items draft (operand_step (evaluating ∷ stack) token kind) token rest)
  operand_act stack token (Mark mark.Tilde) rest starts = refl
  operand_act stack token (Mark mark.Star) rest starts = refl
  operand_act stack token (Mark mark.OpenParen) rest starts = refl
  operand_act stack token (Literal width value) rest starts = refl
  operand_act stack token (Word name) rest starts = refl
  operand_act stack token (Key key.Shl) rest starts = refl
  operand_act stack token (Key key.Shr) rest starts = refl
  operand_act stack token (Key key.Cat) rest starts = refl
  operand_act stack token kind rest starts = absurd cc

  expression_begins : (stack : List Frame) (from : List Token) → BeginsOperand from
      → Goes stack act_wanted from (first_begins counted.Act from []) (evaluating ∷ stack) operand_wanted from
  expression_begins stack [] begins = absurd begins
  expression_begins stack (token ∷ from) begins = record { same = operand_act stack token token.kind from begins }

  -- behind an act or a term
  set_taken : (stack : List Frame) (at : ℕ) (register : Label) (value : Expr) (rest : List Token) → EndsAct rest
      → Same (setting at register ∷ stack) (after_operand value) rest stack (after_act (tree.set at register.name register.at value)) rest
  set_taken stack at register value [] ends = absurd ends
  set_taken stack at register value (token ∷ rest) ends = rw (set_ends stack at register value token ends) refl

  expression_taken : (stack : List Frame) (expr : Expr) (rest : List Token) → EndsAct rest
      → Same (evaluating ∷ stack) (after_operand expr) rest stack (after_act (tree.pure (place_of_expr expr) expr)) rest
  expression_taken stack expr [] ends = absurd ends
  expression_taken stack expr (token ∷ rest) ends = rw (expression_ends stack expr token ends) refl

  when_taken : (stack : List Frame) (at : ℕ) (condition : Expr) (first : Term) (rest : List Token) → EndsAct rest
      → Same stack (after_first at condition first) rest stack (after_act (tree.when at condition first)) rest
  when_taken stack at condition first [] ends = absurd ends
  when_taken stack at condition first (token ∷ rest) ends = rw (when_ends stack at condition first token.kind ends) refl

  -- what the token behind a term does; there is one, so the first case is any walk
  abbrev pub behind_term : List Frame → Term → List Token → Walk
  behind_term stack term [] = walk start []
  behind_term stack term (closing ∷ rest) = reading_on items draft (term_ends stack term) closing rest

  last_taken : (stack : List Frame) (act : Act) (rest : List Token) → EndsTerm rest → Unbound stack
      → reads stack (after_act act) rest ≡ behind_term stack (tree.single act) rest
  last_taken stack act [] ends unbound = absurd ends
  last_taken stack act (closing ∷ rest) ends unbound = rw ends (rw (last_act stack act unbound) refl)

  follow_taken : (stack : List Frame) (bound : Option Name) (act : Act) (term : Term) (rest : List Token)
      → behind_term (following bound act ∷ stack) term rest ≡ behind_term stack (tree.follow bound act term) rest
  follow_taken stack bound act term [] = refl
  follow_taken stack bound act term (closing ∷ rest) = refl

  beside_taken : (stack : List Frame) (bound : Option Name) (act : Act) (term : Term) (rest : List Token)
      → behind_term (besides bound act ∷ stack) term rest ≡ behind_term stack (tree.beside bound act term) rest
  beside_taken stack bound act term [] = refl
  beside_taken stack bound act term (closing ∷ rest) = refl

  -- a term that begins with an act
  expression_no_let : (stack : List Frame) (from : List Token) → BeginsOperand from → Same stack term_wanted from stack act_wanted from
  expression_no_let stack [] begins = absurd begins
  expression_no_let stack (token ∷ from) begins = rw (operand_no_let stack token token.kind begins) refl

  act_first : {from rest : List Token} {act : Act} (stack : List Frame) → IsAct from act rest → Same stack term_wanted from stack act_wanted from
  act_first stack (cycle is a) = rw is refl
  act_first stack (set is a b c) = rw is refl
  act_first stack (send is a b c d e f) = rw is refl
  act_first stack (receive is a b c) = rw is refl
  act_first stack (when is a b c d) = rw is refl
  act_first stack (either is a b c d e f g h) = rw is refl
  act_first stack (block is a b) = rw is refl
  act_first {from = from} stack (pure is) = expression_no_let stack from (expr_begins is)

  mutual
    pub act_walked : {from rest : List Token} {act : Act} (stack : List Frame) (is : IsAct from act rest) → EndsAct rest
        → Goes stack act_wanted from (begun_in_act is) stack (after_act act) rest
    act_walked stack (cycle is is_number) ends = record { same = rw is (rw is_number refl) }
    act_walked {rest = rest} stack (set {word = word} {target = target} {from = from} {register = register} {value = value} is is_target is_assign is_value) ends =
        let label = labelled register target in
        step_to (act_at word.at) (reads (setting word.at label ∷ stack) operand_wanted from) (rw is (rw is_target (rw is_assign refl)))
        (on_to (expr_walked items draft (setting word.at label ∷ stack) is_value (act_stops rest ends) tt) (set_taken stack word.at label value rest ends))
    act_walked {rest = rest} stack (send {word = word} {holder = holder} {sent = sent} {closing = closing} {from = from} {endpoint = endpoint} {message = message} is is_holder is_dot is_sent is_opening is_value is_closing) ends =
        let sending_it = sending word.at (labelled endpoint holder) (labelled message sent) in
        step_to (act_at word.at) (reads (sending_it ∷ stack) operand_wanted from) (rw is (rw is_holder (rw is_dot (rw is_sent (rw is_opening refl)))))
        (on_to (expr_walked items draft (sending_it ∷ stack) is_value (stops_at 1 (Mark mark.CloseParen) closing rest is_closing (omega arith) refl) tt) (rw is_closing refl))
    act_walked stack (receive is is_holder is_dot is_received) ends = record { same = rw is (rw is_holder (rw is_dot (rw is_received refl))) }
    act_walked {rest = rest} stack (when {word = word} {opening = opening} {from = from} {middle = middle} {condition = condition} {first = first} is is_condition is_opening is_first is_closing) ends =
        step_to (act_at word.at) (reads (deciding word.at ∷ stack) operand_wanted from) (rw is refl)
        (on (expr_walked items draft (deciding word.at ∷ stack) is_condition (stops_at 1 (Mark mark.OpenBrace) opening middle is_opening (omega arith) refl) tt)
        (move_to (reads (first_side word.at condition ∷ stack) term_wanted middle) (rw is_opening refl)
        (on_to (term_walked (first_side word.at condition ∷ stack) is_first is_closing tt) (when_taken stack word.at condition first rest ends))))
    act_walked {rest = rest} stack (either {word = word} {opening = opening} {from = from} {middle = middle} {after = after} {condition = condition} {first = first} is is_condition is_opening is_first is_closing is_else is_opening_else is_second is_closing_else) ends =
        step_to (act_at word.at) (reads (deciding word.at ∷ stack) operand_wanted from) (rw is refl)
        (on (expr_walked items draft (deciding word.at ∷ stack) is_condition (stops_at 1 (Mark mark.OpenBrace) opening middle is_opening (omega arith) refl) tt)
        (move_to (reads (first_side word.at condition ∷ stack) term_wanted middle) (rw is_opening refl)
        (on (term_walked (first_side word.at condition ∷ stack) is_first is_closing tt)
        (move_to (reads (second_side word.at condition first ∷ stack) term_wanted after) (rw is_else (rw is_opening_else refl))
        (term_walked (second_side word.at condition first ∷ stack) is_second is_closing_else tt)))))
    act_walked stack (block {opening = opening} {from = from} is is_term is_closing) ends =
        step_to (act_at opening.at) (reads (blocking opening.at ∷ stack) term_wanted from) (rw is refl) (term_walked (blocking opening.at ∷ stack) is_term is_closing tt)
    act_walked {from = from} {rest = rest} stack (pure {expr = expr} is) ends =
        as_begun
        (on (expression_begins stack from (expr_begins is))
        (on_to (expr_walked items draft (evaluating ∷ stack) is (act_stops rest ends) tt) (expression_taken stack expr rest ends)))
        (first_then from (nodes expr) (expr_begins is))

    pub term_walked : {from rest : List Token} {term : Term} (stack : List Frame) (is : IsTerm from term rest) → EndsTerm rest → Unbound stack
        → Comes (reads stack term_wanted from) (begun_in_term is) (behind_term stack term rest)
    term_walked {from = from} {rest = rest} stack (single {act = act} is) ends unbound =
        move_to (reads stack act_wanted from) (act_first stack is)
        (on_to (act_walked stack is (term_ends_act rest ends)) (last_taken stack act rest ends unbound))
    term_walked {from = from} {rest = rest} stack (follow {middle = middle} {sign = sign} {act = act} {term = term} is is_sign others) ends unbound =
        move_to (reads stack act_wanted from) (act_first stack is)
        (on (act_walked stack is (act_ends_at (Mark mark.Chain) sign middle is_sign refl))
        (move_to (reads (following None act ∷ stack) term_wanted middle) (rw is_sign (rw (followed_act stack act unbound) refl))
        (on_to (term_walked (following None act ∷ stack) others ends tt) (follow_taken stack None act term rest))))
    term_walked {from = from} {rest = rest} stack (beside {middle = middle} {sign = sign} {act = act} {term = term} is is_sign others) ends unbound =
        move_to (reads stack act_wanted from) (act_first stack is)
        (on (act_walked stack is (act_ends_at (Mark mark.Semicolon) sign middle is_sign refl))
        (move_to (reads (besides None act ∷ stack) term_wanted middle) (rw is_sign (rw (act_beside stack act unbound) refl))
        (on_to (term_walked (besides None act ∷ stack) others ends tt) (beside_taken stack None act term rest))))
    term_walked {rest = rest} stack (follow_bound {sign = sign} {from = from} {middle = middle} {name = name} {act = act} {term = term} is_let is_word is_equals is is_sign others) ends unbound =
        move_to (reads (binding name ∷ stack) act_wanted from) (rw is_let (rw is_word (rw is_equals refl)))
        (on (act_walked (binding name ∷ stack) is (act_ends_at (Mark mark.Chain) sign middle is_sign refl))
        (move_to (reads (following (Some name) act ∷ stack) term_wanted middle) (rw is_sign refl)
        (on_to (term_walked (following (Some name) act ∷ stack) others ends tt) (follow_taken stack (Some name) act term rest))))
    term_walked {rest = rest} stack (beside_bound {sign = sign} {from = from} {middle = middle} {name = name} {act = act} {term = term} is_let is_word is_equals is is_sign others) ends unbound =
        move_to (reads (binding name ∷ stack) act_wanted from) (rw is_let (rw is_word (rw is_equals refl)))
        (on (act_walked (binding name ∷ stack) is (act_ends_at (Mark mark.Semicolon) sign middle is_sign refl))
        (move_to (reads (besides (Some name) act ∷ stack) term_wanted middle) (rw is_sign refl)
        (on_to (term_walked (besides (Some name) act ∷ stack) others ends tt) (beside_taken stack (Some name) act term rest))))
