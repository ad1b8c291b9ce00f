-- The steps inside an expression keep what the stack says: an operand ends at a token that is an operator, a `?`, or what the
-- frame on top waits for; and an operand begins.
use Rattle.std.proofs.Common.{◌≡◌, ◌≤◌, ℕ, List, ◌∷◌, Option, Some, None, Bool, true, false, refl, ap, sym, ◌∙◌, arith}
use Rattle.std.specs.Prelude.{◌==◌, ◌&&◌, if◌then◌else◌}
use Rattle.std.proofs.lemmas.Bool.{eqb-true}
use Rattle.std.proofs.Math.Bool.{and-false}
use Rattle.anvil_lexer.specs.declared.token.Token.{Token}
use Rattle.anvil_lexer.specs.declared.token.TokenKind.{TokenKind}
use Rattle.anvil_lexer.specs.declared.token.TokenKind.TheVariants.{Word, Literal, Mark}
use Rattle.anvil_lexer.specs.declared.token.Mark.TheVariants as mark
use Rattle.anvil_tree.specs.declared.expr.BinOp.{BinOp}
use Rattle.anvil_tree.specs.Tree as tree
use Rattle.anvil_tree.specs.Tree.{Name, Expr, Term, Act}
use Rattle.anvil_tree.specs.Places.{place_of_expr}
use Rattle.anvil_grammar.specs.Words.{Is, Joining, comparison, disjunction, joined, unary, function_of}
use Rattle.anvil_grammar.specs.Grammar as grammar
use Rattle.anvil_grammar.specs.Grammar.{IsUnary, IsAt, alone, IsExpr}
use Rattle.anvil_grammar.specs.State as states
use Rattle.anvil_grammar.specs.State.{Frame}
use Rattle.anvil_grammar.specs.Step.{strength, strength_of, operator_at, is_comparison, Settled, settled, Threaded, node, unexpected, expression_step, compares, operator_step, operand_ends, word_step, parenthesis_step, operand_step, function_step}
use Rattle.anvil_grammar.proofs.Kept.Loosened.{of_level, level_strength, at_least_two, reach_strength, left_level, loosened, as_whole}
use Rattle.anvil_grammar.proofs.Kept.Waiting.{WantsOperand, inverted, operated, grouped, called, called_second, chosen, chosen_second, setting, sending, deciding, evaluating, Reads, at_operand, at_term, act_read, star_read, parenthesis_read, function_read, word_read, slice_opened, operand_read, in_first_side}
use Rattle.anvil_grammar.proofs.Kept.Settling.{sign_told, operator_bound, Suits, unary_suits, Settles, settles, asks_less, asked_most}
use Rattle.anvil_grammar.proofs.Kept.Term.{Good, act_good}

module _ {first : List Token} {token : Token} {now : List Token} where
  -- an expression is whole
  expression_good : {stack : List Frame} {from : List Token} → WantsOperand first stack from → (expr : Expr) → IsExpr from expr (token ∷ now)
      → (kind : TokenKind) → Is kind token → Good first (expression_step stack expr kind) now
  expression_good (grouped wants is_opening) expr is_expr (Mark mark.CloseParen) is = operand_read wants (grammar.grouped is_opening is_expr is)
  expression_good (called wants is_word is_opening) expr is_expr (Mark mark.Comma) is = at_operand (called_second wants is_word is_opening is_expr is)
  expression_good (called_second wants is_word is_opening is_one is_comma) expr is_expr (Mark mark.CloseParen) is =
      operand_read wants (grammar.function is_word is_opening is_one is_comma is_expr is)
  expression_good (chosen wants asks is_condition is_question) expr is_expr (Mark mark.Colon) is =
      at_operand (chosen_second wants asks is_condition is_question is_expr is)
  expression_good (setting {word = word} {target = target} {name = name} wants is_word is_target is_assign) expr is_expr kind is =
      act_good (tree.set word.at name target.at expr) (grammar.set is_word is_target is_assign is_expr) wants kind is
  expression_good (sending wants is_word is_holder is_dot is_sent is_opening) expr is_expr (Mark mark.CloseParen) is =
      act_read wants (grammar.send is_word is_holder is_dot is_sent is_opening is_expr is)
  expression_good (deciding wants is_word) expr is_expr (Mark mark.OpenBrace) is = at_term (in_first_side wants is_word is_expr is)
  expression_good (evaluating wants) expr is_expr kind is = act_good (tree.pure (place_of_expr expr) expr) (grammar.pure is_expr) wants kind is
  expression_good wants expr is_expr kind is = tt

module _ (first now : List Token) where
  good_if : (test : Bool) (one two : Threaded) → (test ≡ true → Good first one now) → (test ≡ false → Good first two now)
      → Good first (if test then one else two) now
  good_if true one two yes' no' = yes' refl
  good_if false one two yes' no' = no' refl

left_strength : (joining : Joining) (reach : ℕ) → Suits (level_strength (joined joining)) reach → level_strength (left_level joining) ≤ reach
left_strength comparison reach suits = suits.compared refl
left_strength joining reach suits = suits.least

question_told : (kind : TokenKind) → (strength kind == 1) ≡ true → kind ≡ Mark mark.Question
question_told (Mark mark.Question) is = refl
question_told kind is = absurd cc

strength_within : (kind : TokenKind) → strength kind ≤ 8
strength_within (Mark mark.Question) = omega arith
strength_within kind = omega arith

-- two comparisons do not follow one another
not_both : (found : List Frame) (operator : BinOp) (strong : ℕ) → strength_of operator ≡ strong → compares found operator ≡ false
    → (before : BinOp) (at : ℕ) (left : Expr) (below : List Frame) → found ≡ states.operating before at left ∷ below → ((strength_of before == 5) && (strong == 5)) ≡ false
not_both found operator strong same differs before at left below is = rw (← same) (rw is at differs)

module _ {first : List Token} {token : Token} {now : List Token} where
  -- the frames that have the operand ahead of the token have taken it
  settled_good : (found : Settled) → Settles first (strength token.kind) (token ∷ now) found → (sign : Option BinOp) → operator_at token.kind ≡ sign
      → Good first (operator_step found.stack found.operand token sign) now
  settled_good found settles' (Some operator) is =
      let told = sign_told token.kind operator is in
      let same : strength_of operator ≡ strength token.kind = operator_bound told.joining token.kind operator told.is ∙ sym told.strong in
      let two = at_least_two (joined told.joining) in
      good_if first now (compares found.stack operator) unexpected _ (λ both. tt) (λ differs.
      at_operand (operated told.joining settles'.wants
      (rw told.strong at (asks_less (strength token.kind) found.stack (omega (arith, two, told.strong)) settles'.rests
      (not_both found.stack operator (strength token.kind) same differs)))
      (loosened (left_level told.joining) settles'.reach (left_strength told.joining (reach_strength settles'.reach) (rw told.strong at settles'.suits)) settles'.is) told.is))
  settled_good found settles' None is =
      good_if first now (strength token.kind == 1) (node token (states.choosing token.at found.operand ∷ found.stack) states.operand_wanted) _
      (λ question.
      let one = eqb-true (strength token.kind) 1 question in
      at_operand (chosen settles'.wants
      (rw one at (asks_less (strength token.kind) found.stack (omega (arith, one)) settles'.rests
      (λ before at left below is. rw one (and-false (is_comparison before)))))
      (loosened (joined disjunction) settles'.reach (settles'.suits.chosen one) settles'.is)
      (question_told token.kind question)))
      (λ none. expression_good settles'.wants found.operand (as_whole settles'.reach settles'.is) token.kind refl)

  pub operand_ends_good : {stack : List Frame} {from : List Token} → WantsOperand first stack from → (operand : Expr) → IsUnary from operand (token ∷ now)
      → Good first (operand_ends stack operand token) now
  operand_ends_good {stack = stack} wants operand is =
      let within = strength_within token.kind in
      settled_good (settled (strength token.kind) stack operand)
      (settles (strength token.kind) within wants operand (of_level unary) (alone is) (asked_most wants) (unary_suits (strength token.kind) within))
      (operator_at token.kind) refl

  -- a word is whole, or a slice goes on with it
  variable_good : {stack : List Frame} {at : ℕ} {name : Name} → Reads first stack (states.after_word at name) (token ∷ now)
      → Good first (operand_ends stack (tree.variable at name) token) now
  variable_good (word_read {word = word} {name = name} wants is) = operand_ends_good wants (tree.variable word.at name) (grammar.variable is)

  pub word_good : {stack : List Frame} {at : ℕ} {name : Name} → Reads first stack (states.after_word at name) (token ∷ now) → (kind : TokenKind) → Is kind token
      → Good first (word_step stack at name token kind) now
  word_good reads (Mark mark.OpenBracket) is = slice_opened reads is
  word_good reads kind is = variable_good reads

  -- an operand begins
  function_good : {stack : List Frame} → WantsOperand first stack (token ∷ now) → (found : Option BinOp) → function_of token.kind ≡ found
      → Good first (function_step stack token found) now
  function_good wants (Some operator) is = function_read wants is
  function_good wants None is = tt

  pub operand_good : {stack : List Frame} → WantsOperand first stack (token ∷ now) → (kind : TokenKind) → Is kind token
      → Good first (operand_step stack token kind) now
  operand_good wants (Mark mark.Tilde) is = at_operand (inverted wants is)
  operand_good wants (Mark mark.Star) is = star_read wants is
  operand_good wants (Literal width value) is = operand_read wants (grammar.literal is)
  operand_good wants (Word name) is = word_read wants is
  operand_good wants (Mark mark.OpenParen) is = parenthesis_read wants is
  operand_good wants kind is = function_good wants (function_of kind) (ap function_of is)

  -- `(` was read
  pub parenthesis_good : {stack : List Frame} {at : ℕ} → Reads first stack (states.parenthesis_opened at) (token ∷ now) → (kind : TokenKind) → Is kind token
      → Good first (parenthesis_step stack at token kind) now
  parenthesis_good (parenthesis_read wants is_opening) (Mark mark.CloseParen) is = operand_read wants (grammar.unit is_opening is)
  parenthesis_good (parenthesis_read wants is_opening) kind is = operand_good (grouped wants is_opening) kind is
