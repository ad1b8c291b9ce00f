-- Which frames take an operand ahead of the next token. A frame that waits for an operand of a level is weaker than the level's
-- operators, so these don't let it take; and where the next token is weaker than an operator, or as strong and the operator no
-- comparison, the operator takes its right operand first.
use Rattle.std.proofs.Common.{◌≡◌, ◌<◌, ◌≤◌, ℕ, List, ◌∷◌, ◌++◌, Bool, true, false, ◌&&◌, Some, refl, ap, subst, arith, lt-ltb, le-ltb, ne_eqb, eq-eqb, eqb, ◌≢◌, ◌⊎◌, inl, inr}
use Rattle.std.proofs.lemmas.Bool.Decides.{eqb_tells}
use Rattle.std.specs.Prelude.{⊤}
use Rattle.anvil_lexer.specs.declared.token.Token.{Token}
use Rattle.anvil_lexer.specs.declared.token.TokenKind.{TokenKind}
use Rattle.anvil_lexer.specs.declared.token.TokenKind.TheVariants.{Mark}
use Rattle.anvil_lexer.specs.declared.token.Mark.TheVariants as mark
use Rattle.anvil_tree.specs.declared.expr.BinOp.{BinOp}
use Rattle.anvil_tree.specs.declared.expr.BinOp.TheVariants as operator
use Rattle.anvil_tree.specs.Tree as tree
use Rattle.anvil_tree.specs.Tree.{Expr}
use Rattle.anvil_grammar.specs.Words.{Joining, disjunction, exclusion, conjunction, comparison, addition, multiplication, operator_of, goes_on_after}
use Rattle.anvil_tree.specs.Order.{with_root}
use Rattle.anvil_grammar.specs.State.{Frame, inverting, operating, choosing_second, operand_wanted}
use Rattle.anvil_grammar.specs.Step.{strength, strength_of, is_comparison, takes_first, settled, compares, operator_at, node, settled_step, operand_ends}

-- a frame on top takes no operand ahead of a token of the strength
abbrev pub Waits : ℕ → List Frame → Type 0
Waits strong (inverting at ∷ stack) = ⊥
Waits strong (operating operator at left ∷ stack) = strength_of operator < strong
Waits strong stack = ⊤

-- the token goes on with a word as a slice
abbrev pub opens_slice : TokenKind → Bool
opens_slice (Mark mark.OpenBracket) = true
opens_slice kind = false

-- a weaker operator takes none ahead of a stronger token
not_first : (operator : BinOp) (strong : ℕ) → strength_of operator < strong → takes_first operator strong ≡ false
not_first operator strong less =
    rw (le-ltb strong (strength_of operator) (omega (arith, less))) (rw (ne_eqb strong (strength_of operator) (λ same. omega (arith, less, same))) refl)

pub unsettled : (strong : ℕ) (stack : List Frame) (operand : Expr) → 1 ≤ strong → Waits strong stack
    → settled strong stack operand ≡ record { stack = stack; operand = operand }
unsettled strong (inverting at ∷ stack) operand some waits = absurd waits
unsettled strong (operating operator at left ∷ stack) operand some waits = rw (not_first operator strong waits) refl
unsettled strong (choosing_second at condition first ∷ stack) operand some waits = rw (ne_eqb strong 0 (λ same. omega (arith, some, same))) refl
unsettled strong stack operand some waits = refl

-- how strong the operators of a level are
abbrev pub joining_strength : Joining → ℕ
joining_strength multiplication = 7
joining_strength addition = 6
joining_strength comparison = 5
joining_strength conjunction = 4
joining_strength exclusion = 3
joining_strength disjunction = 2

-- what a token and its operator are, where it is an operator of the level
pub record Joins (joining : Joining) (kind : TokenKind) (operator : BinOp) : Type 0 where
  pub here : operator_at kind ≡ Some operator
  pub token_strong : strength kind ≡ joining_strength joining
  pub operator_strong : strength_of operator ≡ joining_strength joining
  pub no_bracket : opens_slice kind ≡ false
  pub between : (place : ℕ) (first second : List ℕ) → with_root place operator first second ≡ first ++ (place ∷ second)

known : (joining : Joining) (kind : TokenKind) (found o : BinOp) → Some found ≡ Some o → operator_at kind ≡ Some found
    → strength kind ≡ joining_strength joining → strength_of found ≡ joining_strength joining → opens_slice kind ≡ false
    → ((place : ℕ) (first second : List ℕ) → with_root place found first second ≡ first ++ (place ∷ second)) → Joins joining kind o
known joining kind found o same here strong strong_of none between =
    let is : found ≡ o = cc in
    subst (λ o. Joins joining kind o) is (record { here = here; token_strong = strong; operator_strong = strong_of; no_bracket = none; between = between })

pub joins : (joining : Joining) (kind : TokenKind) (operator : BinOp) → operator_of joining kind ≡ Some operator → Joins joining kind operator
joins disjunction (Mark mark.Bar) o is = known disjunction (Mark mark.Bar) operator.Or o is refl refl refl refl (λ place first second. refl)
joins exclusion (Mark mark.Caret) o is = known exclusion (Mark mark.Caret) operator.Xor o is refl refl refl refl (λ place first second. refl)
joins conjunction (Mark mark.Amp) o is = known conjunction (Mark mark.Amp) operator.And o is refl refl refl refl (λ place first second. refl)
joins comparison (Mark mark.EqEq) o is = known comparison (Mark mark.EqEq) operator.Eq o is refl refl refl refl (λ place first second. refl)
joins comparison (Mark mark.NotEq) o is = known comparison (Mark mark.NotEq) operator.Ne o is refl refl refl refl (λ place first second. refl)
joins comparison (Mark mark.Less) o is = known comparison (Mark mark.Less) operator.Lt o is refl refl refl refl (λ place first second. refl)
joins comparison (Mark mark.LessEq) o is = known comparison (Mark mark.LessEq) operator.Le o is refl refl refl refl (λ place first second. refl)
joins comparison (Mark mark.Greater) o is = known comparison (Mark mark.Greater) operator.Gt o is refl refl refl refl (λ place first second. refl)
joins comparison (Mark mark.GreaterEq) o is = known comparison (Mark mark.GreaterEq) operator.Ge o is refl refl refl refl (λ place first second. refl)
joins addition (Mark mark.Plus) o is = known addition (Mark mark.Plus) operator.Add o is refl refl refl refl (λ place first second. refl)
joins addition (Mark mark.Minus) o is = known addition (Mark mark.Minus) operator.Sub o is refl refl refl refl (λ place first second. refl)
joins multiplication (Mark mark.Star) o is = known multiplication (Mark mark.Star) operator.Mul o is refl refl refl refl (λ place first second. refl)
joins joining kind o is = absurd cc

joining_some : (joining : Joining) → 1 ≤ joining_strength joining
joining_some disjunction = omega arith
joining_some exclusion = omega arith
joining_some conjunction = omega arith
joining_some comparison = omega arith
joining_some addition = omega arith
joining_some multiplication = omega arith

-- two operators of which the second is stronger are not both comparisons
both_by : (before operator : BinOp) → strength_of before < strength_of operator
    → ((eqb (strength_of before) 5 ≡ true) × (strength_of before ≡ 5)) ⊎ ((eqb (strength_of before) 5 ≡ false) × (strength_of before ≢ 5))
    → is_comparison before && is_comparison operator ≡ false
both_by before operator less (inl (known, is)) = rw known (ne_eqb (strength_of operator) 5 (λ same. omega (arith, less, is, same)))
both_by before operator less (inr (known, is)) = rw known refl

both : (before operator : BinOp) → strength_of before < strength_of operator → is_comparison before && is_comparison operator ≡ false
both before operator less = both_by before operator less (eqb_tells (strength_of before) 5)

-- an operator goes on with its left operand, which waits in a new frame
waits_compare : (strong : ℕ) (stack : List Frame) (operator : BinOp) → strength_of operator ≡ strong → Waits strong stack → compares stack operator ≡ false
waits_compare strong (inverting at ∷ stack) operator is waits = refl
waits_compare strong (operating before at left ∷ stack) operator is waits = both before operator (omega (arith, is, waits))
waits_compare strong stack operator is waits = refl

pub operator_taken : (joining : Joining) (stack : List Frame) (operand : Expr) (token : Token) (operator : BinOp) → operator_of joining token.kind ≡ Some operator
    → Waits (joining_strength joining) stack
    → operand_ends stack operand token ≡ node token (operating operator token.at operand ∷ stack) operand_wanted
operator_taken joining stack operand token operator is waits =
    let what = joins joining token.kind operator is in
    rw what.token_strong (rw (unsettled (joining_strength joining) stack operand (joining_some joining) waits) (rw what.here
    (rw (waits_compare (joining_strength joining) stack operator what.operator_strong waits) refl)))

-- an operator takes its right operand ahead of a weaker token, and ahead of one of its own level if it is no comparison
pub right_taken : (stack : List Frame) (operator : BinOp) (at : ℕ) (left right : Expr) (token : Token) → takes_first operator (strength token.kind) ≡ true
    → operand_ends (operating operator at left ∷ stack) right token ≡ operand_ends stack (tree.binary at operator left right) token
right_taken stack operator at left right token takes = rw takes refl

pub first_of_weaker : (operator : BinOp) (strong : ℕ) → strong < strength_of operator → takes_first operator strong ≡ true
first_of_weaker operator strong less = rw (lt-ltb strong (strength_of operator) less) refl

pub first_of_equal : (joining : Joining) (operator : BinOp) (strong : ℕ) → strength_of operator ≡ joining_strength joining → strong ≡ joining_strength joining → goes_on_after joining
    → takes_first operator strong ≡ true
first_of_equal comparison operator strong is same goes = absurd goes
first_of_equal disjunction operator strong is same goes = rw same (rw is refl)
first_of_equal exclusion operator strong is same goes = rw same (rw is refl)
first_of_equal conjunction operator strong is same goes = rw same (rw is refl)
first_of_equal addition operator strong is same goes = rw same (rw is refl)
first_of_equal multiplication operator strong is same goes = rw same (rw is refl)

-- a choice takes its second expression ahead of a token that is no operator and no `?`
choice_settled : (strong : ℕ) (stack : List Frame) (at : ℕ) (condition first second : Expr) → eqb strong 0 ≡ true
    → settled strong (choosing_second at condition first ∷ stack) second ≡ settled strong stack (tree.choice at condition first second)
choice_settled strong stack at condition first second none = rw none refl

pub choice_ends : (stack : List Frame) (at : ℕ) (condition first second : Expr) (token : Token) → strength token.kind < 1
    → operand_ends (choosing_second at condition first ∷ stack) second token ≡ operand_ends stack (tree.choice at condition first second) token
choice_ends stack at condition first second token weaker =
    let none : strength token.kind ≡ 0 = omega (arith, weaker) in
    ap (λ now. settled_step now token) (choice_settled (strength token.kind) stack at condition first second (eq-eqb (strength token.kind) 0 none))
