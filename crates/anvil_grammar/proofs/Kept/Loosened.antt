-- Expressions by their levels. An expression of a tighter level is one of each looser level too. An expression of a level, with
-- one more operator of that level and one more operand, is of the level again; the left side of a comparison is of the next
-- tighter level, since comparisons do not follow one another. So what a frame of the stack takes is an expression once more.
use Rattle.std.proofs.Common.{◌≡◌, ◌≤◌, ℕ, List, ◌∷◌, Some, arith}
use Rattle.anvil_lexer.specs.declared.token.Token.{Token}
use Rattle.anvil_tree.specs.declared.expr.BinOp.{BinOp}
use Rattle.anvil_tree.specs.Tree as tree
use Rattle.anvil_tree.specs.Tree.{Expr}
use Rattle.anvil_grammar.specs.Words.{Joining, disjunction, exclusion, conjunction, comparison, addition, multiplication, Level, unary, joined, operand_level, operator_of, goes_on_after}
use Rattle.anvil_grammar.specs.Grammar.{IsAt, begun, IsGrown, ended, grown, IsFurther, once, again, IsExpr, plain}

-- a whole expression, or one of a level
pub data Reach : Type 0 where
  whole : Reach
  of_level : Level → Reach

abbrev pub level_strength : Level → ℕ
level_strength unary = 8
level_strength (joined multiplication) = 7
level_strength (joined addition) = 6
level_strength (joined comparison) = 5
level_strength (joined conjunction) = 4
level_strength (joined exclusion) = 3
level_strength (joined disjunction) = 2

abbrev pub reach_strength : Reach → ℕ
reach_strength whole = 1
reach_strength (of_level level) = level_strength level

abbrev pub Reaches : Reach → List Token → Expr → List Token → Type 0
Reaches whole from expr rest = IsExpr from expr rest
Reaches (of_level level) from expr rest = IsAt level from expr rest

-- the level of the left side of an operator
abbrev pub left_level : Joining → Level
left_level comparison = joined addition
left_level joining = joined joining

pub at_least_two : (level : Level) → 2 ≤ level_strength level
at_least_two unary = omega arith
at_least_two (joined multiplication) = omega arith
at_least_two (joined addition) = omega arith
at_least_two (joined comparison) = omega arith
at_least_two (joined conjunction) = omega arith
at_least_two (joined exclusion) = omega arith
at_least_two (joined disjunction) = omega arith

module _ {from rest : List Token} {expr : Expr} where
  to_unary : (has : Level) → 8 ≤ level_strength has → IsAt has from expr rest → IsAt unary from expr rest
  to_unary unary enough is = is
  to_unary (joined disjunction) enough is = absurd (omega (arith, enough))
  to_unary (joined exclusion) enough is = absurd (omega (arith, enough))
  to_unary (joined conjunction) enough is = absurd (omega (arith, enough))
  to_unary (joined comparison) enough is = absurd (omega (arith, enough))
  to_unary (joined addition) enough is = absurd (omega (arith, enough))
  to_unary (joined multiplication) enough is = absurd (omega (arith, enough))

  to_multiplication : (has : Level) → 7 ≤ level_strength has → IsAt has from expr rest → IsAt (joined multiplication) from expr rest
  to_multiplication (joined multiplication) enough is = is
  to_multiplication has enough is = begun (to_unary has (omega (arith, enough)) is) ended

  to_addition : (has : Level) → 6 ≤ level_strength has → IsAt has from expr rest → IsAt (joined addition) from expr rest
  to_addition (joined addition) enough is = is
  to_addition has enough is = begun (to_multiplication has (omega (arith, enough)) is) ended

  to_comparison : (has : Level) → 5 ≤ level_strength has → IsAt has from expr rest → IsAt (joined comparison) from expr rest
  to_comparison (joined comparison) enough is = is
  to_comparison has enough is = begun (to_addition has (omega (arith, enough)) is) ended

  to_conjunction : (has : Level) → 4 ≤ level_strength has → IsAt has from expr rest → IsAt (joined conjunction) from expr rest
  to_conjunction (joined conjunction) enough is = is
  to_conjunction has enough is = begun (to_comparison has (omega (arith, enough)) is) ended

  to_exclusion : (has : Level) → 3 ≤ level_strength has → IsAt has from expr rest → IsAt (joined exclusion) from expr rest
  to_exclusion (joined exclusion) enough is = is
  to_exclusion has enough is = begun (to_conjunction has (omega (arith, enough)) is) ended

  to_disjunction : (has : Level) → 2 ≤ level_strength has → IsAt has from expr rest → IsAt (joined disjunction) from expr rest
  to_disjunction (joined disjunction) enough is = is
  to_disjunction has enough is = begun (to_exclusion has (omega (arith, enough)) is) ended

  to_level : (wanted has : Level) → level_strength wanted ≤ level_strength has → IsAt has from expr rest → IsAt wanted from expr rest
  to_level unary has enough is = to_unary has enough is
  to_level (joined multiplication) has enough is = to_multiplication has enough is
  to_level (joined addition) has enough is = to_addition has enough is
  to_level (joined comparison) has enough is = to_comparison has enough is
  to_level (joined conjunction) has enough is = to_conjunction has enough is
  to_level (joined exclusion) has enough is = to_exclusion has enough is
  to_level (joined disjunction) has enough is = to_disjunction has enough is

  pub loosened : (wanted : Level) (has : Reach) → level_strength wanted ≤ reach_strength has → Reaches has from expr rest → IsAt wanted from expr rest
  loosened wanted whole enough is = let two = at_least_two wanted in absurd (omega (arith, enough, two))
  loosened wanted (of_level has) enough is = to_level wanted has enough is

  pub as_whole : (has : Reach) → Reaches has from expr rest → IsExpr from expr rest
  as_whole whole is = is
  as_whole (of_level has) is = plain (to_disjunction has (at_least_two has) is)

-- what is grown to can grow on
mutual
  grown_on : {joining : Joining} {first grown' last : Expr} {from middle rest : List Token} → IsGrown joining first from grown' middle
      → goes_on_after joining → IsGrown joining grown' middle last rest → IsGrown joining first from last rest
  grown_on ended goes later = later
  grown_on (grown is right others) goes later = grown is right (further_on others goes later)

  further_on : {joining : Joining} {first grown' last : Expr} {from middle rest : List Token} → IsFurther joining first from grown' middle
      → goes_on_after joining → IsGrown joining grown' middle last rest → IsFurther joining first from last rest
  further_on once goes later = again goes later
  further_on (again still others) goes later = again still (grown_on others goes later)

level_on : (joining : Joining) {left whole : Expr} {from middle rest : List Token} → goes_on_after joining → IsAt (joined joining) from left middle
    → IsGrown joining left middle whole rest → IsAt (joined joining) from whole rest
level_on joining goes (begun is others) later = begun is (grown_on others goes later)

-- the left side of an operator, the operator, and an operand of its level
pub joined_on : (joining : Joining) {sign : Token} {from now rest : List Token} {left right : Expr} {operator : BinOp}
    → operator_of joining sign.kind ≡ Some operator → IsAt (left_level joining) from left (sign ∷ now) → IsAt (operand_level joining) now right rest
    → IsAt (joined joining) from (tree.binary sign.at operator left right) rest
joined_on comparison is is_left is_right = begun is_left (grown is is_right once)
joined_on disjunction is is_left is_right = level_on disjunction tt is_left (grown is is_right once)
joined_on exclusion is is_left is_right = level_on exclusion tt is_left (grown is is_right once)
joined_on conjunction is is_left is_right = level_on conjunction tt is_left (grown is is_right once)
joined_on addition is is_left is_right = level_on addition tt is_left (grown is is_right once)
joined_on multiplication is is_left is_right = level_on multiplication tt is_left (grown is is_right once)
