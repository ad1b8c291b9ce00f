-- What the grammar calls an expression is walked: where the frames on the stack wait for it and the next token doesn't go on with it,
-- reading it comes to the state behind it with the same frames, and its nodes begin from left to right. By induction on the cases
-- of the grammar. An operand that is whole may still wait in a frame, as the right operand of an operator, or be a word that could
-- go on as a slice; the next token settles that, so there always is one. An expression that grows by operators is followed from
-- where its left operand began.
use Rattle.std.proofs.Common.{◌≡◌, ℕ, List, [], ◌∷◌, false, refl, arith, sym}
use Rattle.anvil_lexer.specs.declared.token.Token.{Token}
use Rattle.anvil_lexer.specs.declared.token.TokenKind.{TokenKind}
use Rattle.anvil_lexer.specs.declared.token.TokenKind.TheVariants.{Mark}
use Rattle.anvil_lexer.specs.declared.token.Mark.TheVariants as mark
use Rattle.anvil_tree.specs.declared.expr.BinOp.{BinOp}
use Rattle.anvil_tree.specs.Tree as tree
use Rattle.anvil_tree.specs.Tree.{Name, Expr, File}
use Rattle.anvil_grammar.specs.Words.{Joining, Level}
use Rattle.anvil_grammar.specs.Grammar.{IsUnary, inverse, shown, literal, variable, slice, function, unit, grouped, IsAt, alone, begun, IsGrown, ended, grown, IsFurther, once, again, IsExpr, plain, choice}
use Rattle.anvil_grammar.specs.Begun.{Begin}
use Rattle.anvil_grammar.specs.Limits.{nodes}
use Rattle.anvil_grammar.specs.State.{Frame, inverting, operating, grouping, calling, calling_second, choosing, choosing_second, ThreadState, operand_wanted, parenthesis_opened, after_word, after_operand, ProcessDraft}
use Rattle.anvil_grammar.specs.Step.{word_step, operand_ends, Walk}
use Rattle.anvil_grammar.proofs.Walked.TakenFirst.{Waits, opens_slice, joining_strength, joins, unsettled, operator_taken, right_taken, choice_ends}
use Rattle.anvil_grammar.proofs.Walked.Levels.{level_strength, Stops, stops_at, stops_stronger, stops_before, stops_before_further, WaitsAt, operand_waits, operating_waits, open_waits, TakesBefore, takes_before}
use Rattle.anvil_grammar.proofs.Walked.OperandFirst.{BeginsOperand, expr_begins, group_step, function_step_taken}
use Rattle.anvil_grammar.proofs.Walked.ExprNodes.{node_at, nodes_joined, nodes_called, nodes_chosen}
use Rattle.anvil_grammar.proofs.Walked.Reading.{Comes, stays, on, step_to, move_to, on_to, as_begun, reading}

module _ (items : File) (draft : ProcessDraft) where
  abbrev reads : List Frame → ThreadState → List Token → Walk
  reads = reading items draft

  -- what takes an operand, where a token follows
  inverse_taken : (stack : List Frame) (at : ℕ) (operand : Expr) (rest : List Token) → Stops 8 rest
      → reads (inverting at ∷ stack) (after_operand operand) rest ≡ reads stack (after_operand (tree.inverse at operand)) rest
  inverse_taken stack at operand [] stops = absurd stops
  inverse_taken stack at operand (token ∷ rest) stops = refl

  word_step_taken : (stack : List Frame) (at : ℕ) (name : Name) (token : Token) (kind : TokenKind) → opens_slice kind ≡ false
      → word_step stack at name token kind ≡ operand_ends stack (tree.variable at name) token
  word_step_taken stack at name token (Mark mark.OpenBracket) none = absurd cc
  word_step_taken stack at name token kind none = refl

  word_taken : (stack : List Frame) (at : ℕ) (name : Name) (rest : List Token) → Stops 8 rest
      → reads stack (after_word at name) rest ≡ reads stack (after_operand (tree.variable at name)) rest
  word_taken stack at name [] stops = absurd stops
  word_taken stack at name (token ∷ rest) stops = rw (word_step_taken stack at name token token.kind stops.1) refl

  right_operand_taken : (stack : List Frame) (operator : BinOp) (at : ℕ) (left right : Expr) (rest : List Token) → TakesBefore operator rest
      → reads (operating operator at left ∷ stack) (after_operand right) rest ≡ reads stack (after_operand (tree.binary at operator left right)) rest
  right_operand_taken stack operator at left right [] takes = absurd takes
  right_operand_taken stack operator at left right (token ∷ rest) takes = rw (right_taken stack operator at left right token takes) refl

  choice_taken : (stack : List Frame) (at : ℕ) (condition first second : Expr) (rest : List Token) → Stops 1 rest
      → reads (choosing_second at condition first ∷ stack) (after_operand second) rest ≡ reads stack (after_operand (tree.choice at condition first second)) rest
  choice_taken stack at condition first second [] stops = absurd stops
  choice_taken stack at condition first second (token ∷ rest) stops =
      rw (choice_ends stack at condition first second token stops.0) refl

  -- a group begins
  group_begins : (stack : List Frame) (at : ℕ) (from : List Token) → BeginsOperand from
      → reads stack (parenthesis_opened at) from ≡ reads (grouping ∷ stack) operand_wanted from
  group_begins stack at [] begins = absurd begins
  group_begins stack at (token ∷ from) begins = rw (group_step stack at token token.kind begins) refl

  abbrev Goes : List Frame → ThreadState → List Token → List Begin → List Frame → ThreadState → List Token → Type 0
  Goes stack state from these stack' state' rest = Comes (reads stack state from) these (reads stack' state' rest)

  mutual
    pub unary_walked : {from rest : List Token} {expr : Expr} (stack : List Frame) → IsUnary from expr rest → Stops 8 rest
        → Goes stack operand_wanted from (nodes expr) stack (after_operand expr) rest
    unary_walked {rest = rest} stack (inverse {tilde = tilde} {from = from} {operand = operand} is inner) stops =
        step_to (node_at tilde.at) (reads (inverting tilde.at ∷ stack) operand_wanted from) (rw is refl)
        (on_to (unary_walked (inverting tilde.at ∷ stack) inner stops) (inverse_taken stack tilde.at operand rest stops))
    unary_walked stack (shown is is_word) stops = record { same = rw is (rw is_word refl) }
    unary_walked stack (literal is) stops = record { same = rw is refl }
    unary_walked {rest = rest} stack (variable {word = word} {name = name} is) stops =
        step_to (node_at word.at) (reads stack (after_word word.at name) rest) (rw is refl) (stays (word_taken stack word.at name rest stops))
    unary_walked stack (slice is is_opening is_top is_colon is_bottom is_closing) stops =
        record { same = rw is (rw is_opening (rw is_top (rw is_colon (rw is_bottom (rw is_closing refl))))) }
    unary_walked {rest = rest} stack (function {word = word} {opening = opening} {comma = comma} {closing = closing} {from = from} {middle = middle} {operator = operator} {first = first} {second = second} is is_opening is_first is_comma is_second is_closing) stops =
        as_begun
        (step_to (node_at word.at) (reads (calling operator word.at ∷ stack) operand_wanted from) (rw (function_step_taken stack word word.kind operator is) (rw is_opening refl))
        (on (expr_walked (calling operator word.at ∷ stack) is_first (stops_at 1 (Mark mark.Comma) comma middle is_comma (omega arith) refl) tt)
        (move_to (reads (calling_second operator word.at first ∷ stack) operand_wanted middle) (rw is_comma refl)
        (on_to (expr_walked (calling_second operator word.at first ∷ stack) is_second (stops_at 1 (Mark mark.CloseParen) closing rest is_closing (omega arith) refl) tt) (rw is_closing refl)))))
        (sym (nodes_called word.kind operator is word.at first second))
    unary_walked stack (unit is is_closing) stops = record { same = rw is (rw is_closing refl) }
    unary_walked {rest = rest} stack (grouped {opening = opening} {closing = closing} {from = from} is inner is_closing) stops =
        move_to (reads stack (parenthesis_opened opening.at) from) (rw is refl)
        (move_to (reads (grouping ∷ stack) operand_wanted from) (group_begins stack opening.at from (expr_begins inner))
        (on_to (expr_walked (grouping ∷ stack) inner (stops_at 1 (Mark mark.CloseParen) closing rest is_closing (omega arith) refl) tt) (rw is_closing refl)))

    level_walked : {level : Level} {from rest : List Token} {expr : Expr} (stack : List Frame) → IsAt level from expr rest → Stops (level_strength level) rest
        → WaitsAt level stack → Goes stack operand_wanted from (nodes expr) stack (after_operand expr) rest
    level_walked stack (alone first) stops waits = unary_walked stack first stops
    level_walked {from = from} stack (begun {joining = joining} is_first others) stops waits =
        let one = level_walked stack is_first (stops_before others stops) (operand_waits joining stack waits) in
        grown_walked (reads stack operand_wanted from) stack others stops waits one

    -- from where the left operand was read
    grown_walked : {joining : Joining} {left whole : Expr} {from rest : List Token} (here : Walk) (stack : List Frame) → IsGrown joining left from whole rest
        → Stops (joining_strength joining) rest → Waits (joining_strength joining) stack → Comes here (nodes left) (reads stack (after_operand left) from)
        → Comes here (nodes whole) (reads stack (after_operand whole) rest)
    grown_walked here stack ended stops waits before = before
    grown_walked {joining = joining} {left = left} here stack (grown {right = right} {sign = sign} {from = from} {middle = middle} {operator = operator} is is_right others) stops waits before =
        let strong = (joins joining sign.kind operator is).operator_strong in
        let one = level_walked (operating operator sign.at left ∷ stack) is_right (stops_before_further others stops) (operating_waits joining operator sign.at left stack strong) in
        let taken = right_operand_taken stack operator sign.at left right middle (takes_before operator strong others stops) in
        further_walked here stack others stops waits
        (as_begun
        (on before (step_to (node_at sign.at) (reads (operating operator sign.at left ∷ stack) operand_wanted from) (rw (operator_taken joining stack left sign operator is waits) refl)
        (on_to one taken)))
        (sym (nodes_joined joining sign.kind operator is sign.at left right)))

    further_walked : {joining : Joining} {left whole : Expr} {from rest : List Token} (here : Walk) (stack : List Frame) → IsFurther joining left from whole rest
        → Stops (joining_strength joining) rest → Waits (joining_strength joining) stack → Comes here (nodes left) (reads stack (after_operand left) from)
        → Comes here (nodes whole) (reads stack (after_operand whole) rest)
    further_walked here stack once stops waits before = before
    further_walked here stack (again goes others) stops waits before = grown_walked here stack others stops waits before

    pub expr_walked : {from rest : List Token} {expr : Expr} (stack : List Frame) → IsExpr from expr rest → Stops 1 rest → Waits 1 stack
        → Goes stack operand_wanted from (nodes expr) stack (after_operand expr) rest
    expr_walked {rest = rest} stack (plain is) stops waits =
        level_walked stack is (stops_stronger 1 2 rest (omega arith) stops) (open_waits stack waits)
    expr_walked {rest = rest} stack (choice {middle = middle} {after = after} {question = question} {colon = colon} {condition = condition} {first = first} {second = second} is_condition is_question is_first is_colon is_second) stops waits =
        as_begun
        (on (level_walked stack is_condition (stops_at 2 (Mark mark.Question) question middle is_question (omega arith) refl) (open_waits stack waits))
        (step_to (node_at question.at) (reads (choosing question.at condition ∷ stack) operand_wanted middle) (rw is_question (rw (unsettled 1 stack condition (omega arith) waits) refl))
        (on (expr_walked (choosing question.at condition ∷ stack) is_first (stops_at 1 (Mark mark.Colon) colon after is_colon (omega arith) refl) tt)
        (move_to (reads (choosing_second question.at condition first ∷ stack) operand_wanted after) (rw is_colon refl)
        (on_to (expr_walked (choosing_second question.at condition first ∷ stack) is_second stops tt) (choice_taken stack question.at condition first second rest stops))))))
        (sym (nodes_chosen question.at condition first second))
