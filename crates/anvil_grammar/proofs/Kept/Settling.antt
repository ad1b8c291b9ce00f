-- Where an operand ends, the frames that have it ahead of the next token take it, one after another. Each gives an expression
-- again, which stands where the frame below waits; and it is tight enough for that frame, and for the next token as an operator.
-- What is left on top either asks for less than the token's level, or is a comparison that meets a second one.
use Rattle.std.proofs.Common.{◌≡◌, ◌≤◌, ◌+◌, ℕ, List, ◌∷◌, Some, Bool, true, false, refl, ap, arith}
use Rattle.std.specs.Prelude.{◌==◌, ◌&&◌, ◌||◌, not, nat_lt, if◌then◌else◌, ⊤}
use Rattle.std.proofs.lemmas.Bool.{eqb-true, eqb-false, ltb-true, ltb-false}
use Rattle.anvil_lexer.specs.declared.token.Token.{Token}
use Rattle.anvil_lexer.specs.declared.token.TokenKind.{TokenKind}
use Rattle.anvil_lexer.specs.declared.token.TokenKind.TheVariants.{Mark}
use Rattle.anvil_lexer.specs.declared.token.Mark.TheVariants as mark
use Rattle.anvil_tree.specs.declared.expr.BinOp.{BinOp}
use Rattle.anvil_tree.specs.declared.expr.BinOp.TheVariants as sign
use Rattle.anvil_tree.specs.Tree as tree
use Rattle.anvil_tree.specs.Tree.{Expr}
use Rattle.anvil_grammar.specs.Words.{Joining, disjunction, exclusion, conjunction, comparison, addition, multiplication, unary, joined, operand_level, operator_of}
use Rattle.anvil_grammar.specs.Grammar.{IsUnary, inverse, IsAt, alone, choice}
use Rattle.anvil_grammar.specs.State as states
use Rattle.anvil_grammar.specs.State.{Frame}
use Rattle.anvil_grammar.specs.Step.{strength, strength_of, operator_at, takes_first, Settled, settled}
use Rattle.anvil_grammar.proofs.Kept.Loosened.{Reach, whole, of_level, level_strength, reach_strength, Reaches, at_least_two, loosened, as_whole, joined_on}
use Rattle.anvil_grammar.proofs.Kept.Waiting.{asked, WantsOperand, inverted, operated, chosen_second}

-- an operator's token and its level
pub record IsSign (kind : TokenKind) (operator : BinOp) : Type 0 where
  pub joining : Joining
  pub is : operator_of joining kind ≡ Some operator
  pub strong : strength kind ≡ level_strength (joined joining)

pub sign_told : (kind : TokenKind) (operator : BinOp) → operator_at kind ≡ Some operator → IsSign kind operator
sign_told (Mark mark.Star) operator is = record { joining = multiplication; is = is; strong = refl }
sign_told (Mark mark.Plus) operator is = record { joining = addition; is = is; strong = refl }
sign_told (Mark mark.Minus) operator is = record { joining = addition; is = is; strong = refl }
sign_told (Mark mark.EqEq) operator is = record { joining = comparison; is = is; strong = refl }
sign_told (Mark mark.NotEq) operator is = record { joining = comparison; is = is; strong = refl }
sign_told (Mark mark.Less) operator is = record { joining = comparison; is = is; strong = refl }
sign_told (Mark mark.LessEq) operator is = record { joining = comparison; is = is; strong = refl }
sign_told (Mark mark.Greater) operator is = record { joining = comparison; is = is; strong = refl }
sign_told (Mark mark.GreaterEq) operator is = record { joining = comparison; is = is; strong = refl }
sign_told (Mark mark.Amp) operator is = record { joining = conjunction; is = is; strong = refl }
sign_told (Mark mark.Caret) operator is = record { joining = exclusion; is = is; strong = refl }
sign_told (Mark mark.Bar) operator is = record { joining = disjunction; is = is; strong = refl }
sign_told kind operator is = absurd cc

-- an operator binds as strongly as its level
same_strength : (one operator : BinOp) → Some one ≡ Some operator → strength_of operator ≡ strength_of one
same_strength one operator same = let is : operator ≡ one = cc in ap strength_of is

pub operator_bound : (joining : Joining) (kind : TokenKind) (operator : BinOp) → operator_of joining kind ≡ Some operator
    → strength_of operator ≡ level_strength (joined joining)
operator_bound disjunction (Mark mark.Bar) operator is = same_strength sign.Or operator is
operator_bound exclusion (Mark mark.Caret) operator is = same_strength sign.Xor operator is
operator_bound conjunction (Mark mark.Amp) operator is = same_strength sign.And operator is
operator_bound comparison (Mark mark.EqEq) operator is = same_strength sign.Eq operator is
operator_bound comparison (Mark mark.NotEq) operator is = same_strength sign.Ne operator is
operator_bound comparison (Mark mark.Less) operator is = same_strength sign.Lt operator is
operator_bound comparison (Mark mark.LessEq) operator is = same_strength sign.Le operator is
operator_bound comparison (Mark mark.Greater) operator is = same_strength sign.Gt operator is
operator_bound comparison (Mark mark.GreaterEq) operator is = same_strength sign.Ge operator is
operator_bound addition (Mark mark.Plus) operator is = same_strength sign.Add operator is
operator_bound addition (Mark mark.Minus) operator is = same_strength sign.Sub operator is
operator_bound multiplication (Mark mark.Star) operator is = same_strength sign.Mul operator is
operator_bound joining kind operator is = absurd cc

-- what is read reaches far enough for a token of the strength to go on with it
pub record Suits (strong reach : ℕ) : Type 0 where
  pub least : strong ≤ reach
  pub compared : strong ≡ 5 → 6 ≤ reach
  pub chosen : strong ≡ 1 → 2 ≤ reach

-- an operator that takes its operand ahead of a token, and one that does not, in numbers
takes_by : (strong binds : ℕ) (first second third : Bool) → nat_lt strong binds ≡ first → (strong == binds) ≡ second → (binds == 5) ≡ third
    → (first || (second && not third)) ≡ true → 2 ≤ binds → Suits strong binds
takes_by strong binds true second third is_first is_second is_third takes two =
    let less = ltb-true strong binds is_first in record { least = omega arith; compared = omega arith; chosen = omega arith }
takes_by strong binds false true false is_first is_second is_third takes two =
    let same = eqb-true strong binds is_second in
    let other = eqb-false binds 5 is_third in
    record { least = omega arith; compared = λ is. absurd (other (omega arith)); chosen = omega arith }
takes_by strong binds first second third is_first is_second is_third takes two = absurd cc

leaves_by : (strong binds : ℕ) (first second third fourth : Bool) → nat_lt strong binds ≡ first → (strong == binds) ≡ second → (binds == 5) ≡ third
    → (strong == 5) ≡ fourth → (first || (second && not third)) ≡ false → (third && fourth) ≡ false → binds + 1 ≤ strong
leaves_by strong binds false false third fourth is_first is_second is_third is_fourth leaves compares =
    let least = ltb-false strong binds is_first in
    let other = eqb-false strong binds is_second in
    omega (arith, least, other)
leaves_by strong binds false true true false is_first is_second is_third is_fourth leaves compares =
    let same = eqb-true strong binds is_second in
    let five = eqb-true binds 5 is_third in
    absurd (eqb-false strong 5 is_fourth (omega arith))
leaves_by strong binds first second third fourth is_first is_second is_third is_fourth leaves compares = absurd cc

-- the top of the stack does not take its operand ahead of a token of the strength
abbrev pub Rests : ℕ → List Frame → Type 0
Rests strong (states.inverting at ∷ stack) = ⊥
Rests strong (states.operating operator at left ∷ stack) = takes_first operator strong ≡ false
Rests strong stack = ⊤

pub record Settles (first : List Token) (strong : ℕ) (now : List Token) (found : Settled) : Type 0 where
  pub from : List Token
  pub reach : Reach
  pub wants : WantsOperand first found.stack from
  pub is : Reaches reach from found.operand now
  pub suits : Suits strong (reach_strength reach)
  pub rests : Rests strong found.stack

operand_next : (joining : Joining) → level_strength (operand_level joining) ≡ level_strength (joined joining) + 1
operand_next disjunction = refl
operand_next exclusion = refl
operand_next conjunction = refl
operand_next comparison = refl
operand_next addition = refl
operand_next multiplication = refl

joined_most : (joining : Joining) → level_strength (joined joining) ≤ 7
joined_most disjunction = omega arith
joined_most exclusion = omega arith
joined_most conjunction = omega arith
joined_most comparison = omega arith
joined_most addition = omega arith
joined_most multiplication = omega arith

pub asked_most : {first : List Token} {stack : List Frame} {now : List Token} → WantsOperand first stack now → asked stack ≤ 8
asked_most (inverted wants is) = omega arith
asked_most (operated {sign = sign} {operator = operator} joining wants asks is_left is_sign) =
    let same = operator_bound joining sign.kind operator is_sign in
    let most = joined_most joining in
    omega (arith, same, most)
asked_most wants = omega arith

takes : (strong : ℕ) (operator : BinOp) (joining : Joining) → strength_of operator ≡ level_strength (joined joining) → takes_first operator strong ≡ true
    → Suits strong (level_strength (joined joining))
takes strong operator joining same taken =
    let two = at_least_two (joined joining) in
    rw (← same) (takes_by strong (strength_of operator) _ _ _ refl refl refl taken (omega (arith, same, two)))

all_unary : {from now : List Token} {operand : Expr} → IsAt unary from operand now → IsUnary from operand now
all_unary (alone is) = is

pub unary_suits : (strong : ℕ) → strong ≤ 8 → Suits strong 8
unary_suits strong within = record { least = within; compared = λ is. omega arith; chosen = λ is. omega arith }

choice_suits : (strong : ℕ) → (strong == 0) ≡ true → Suits strong 1
choice_suits strong found =
    let none = eqb-true strong 0 found in
    record { least = omega (arith, none); compared = λ is. absurd (omega (arith, none, is)); chosen = λ is. absurd (omega (arith, none, is)) }

module _ {first : List Token} (strong : ℕ) (within : strong ≤ 8) where
  settles_by : {now : List Token} (test : Bool) (yes' no' : Settled) → (test ≡ true → Settles first strong now yes')
      → (test ≡ false → Settles first strong now no') → Settles first strong now (if test then yes' else no')
  settles_by true yes' no' one two = one refl
  settles_by false yes' no' one two = two refl

  pub settles : {stack : List Frame} {from now : List Token} → WantsOperand first stack from → (operand : Expr) (reach : Reach)
      → Reaches reach from operand now → asked stack ≤ reach_strength reach → Suits strong (reach_strength reach)
      → Settles first strong now (settled strong stack operand)
  settles (inverted {tilde = tilde} wants is_tilde) operand reach is asks suits =
      settles wants (tree.inverse tilde.at operand) (of_level unary) (alone (inverse is_tilde (all_unary (loosened unary reach asks is)))) (asked_most wants)
      (unary_suits strong within)
  settles {stack = stack} {from = from} {now = now} (operated {stack = below} {sign = sign} {left = left} {operator = operator} joining wants asks_below is_left is_sign)
      operand reach is asks suits =
      let same = operator_bound joining sign.kind operator is_sign in
      let next = operand_next joining in
      settles_by (takes_first operator strong) _ _
      (λ taken. settles wants (tree.binary sign.at operator left operand) (of_level (joined joining))
      (joined_on joining is_sign is_left (loosened (operand_level joining) reach (omega (arith, same, next, asks)) is)) asks_below
      (takes strong operator joining same taken))
      (λ untaken. record { from = from; reach = reach; wants = operated joining wants asks_below is_left is_sign; is = is; suits = suits; rests = untaken })
  settles {stack = stack} {from = from} (chosen_second {question = question} {condition = condition} {one = one} wants asks_below is_condition is_question is_one is_colon)
      operand reach is asks suits =
      settles_by (strong == 0) _ _
      (λ taken. settles wants (tree.choice question.at condition one operand) whole (choice is_condition is_question is_one is_colon (as_whole reach is)) asks_below
      (choice_suits strong taken))
      (λ untaken. record { from = from; reach = reach; wants = chosen_second wants asks_below is_condition is_question is_one is_colon; is = is; suits = suits; rests = tt })
  settles {stack = stack} {from = from} wants operand reach is asks suits =
      record { from = from; reach = reach; wants = wants; is = is; suits = suits; rests = tt }

-- what is left on top asks for less than the token gives
module _ (strong : ℕ) where
  pub asks_less : (stack : List Frame) → 1 ≤ strong → Rests strong stack → ((operator : BinOp) (at : ℕ) (left : Expr) (below : List Frame)
      → stack ≡ states.operating operator at left ∷ below → ((strength_of operator == 5) && (strong == 5)) ≡ false) → asked stack ≤ strong
  asks_less (states.inverting at ∷ stack) some rests other = absurd rests
  asks_less (states.operating operator at left ∷ stack) some rests other =
      leaves_by strong (strength_of operator) _ _ _ _ refl refl refl refl rests (other operator at left stack refl)
  asks_less stack some rests other = some
