-- The nodes of an expression from left to right, part by part.
use Rattle.std.proofs.Common.{◌≡◌, ℕ, List, [], ◌∷◌, ◌++◌, refl, subst}
use Rattle.std.proofs.lemmas.List.{map-append}
use Rattle.std.specs.Prelude.{Some}
use Rattle.anvil_lexer.specs.declared.token.TokenKind.{TokenKind}
use Rattle.anvil_lexer.specs.declared.token.TokenKind.TheVariants.{Key}
use Rattle.anvil_lexer.specs.declared.token.Keyword.TheVariants as key
use Rattle.anvil_tree.specs.declared.expr.BinOp.{BinOp}
use Rattle.anvil_tree.specs.declared.expr.BinOp.TheVariants as operator
use Rattle.anvil_tree.specs.Tree as tree
use Rattle.anvil_tree.specs.Tree.{Expr}
use Rattle.anvil_grammar.specs.declared.error.Counted.{Counted}
use Rattle.anvil_grammar.specs.declared.error.Counted.TheVariants as counted
use Rattle.anvil_grammar.specs.Words.{Joining, operator_of, function_of}
use Rattle.anvil_tree.specs.Order.{nodes_of, with_root}
use Rattle.anvil_grammar.specs.Begun.{Begin}
use Rattle.anvil_grammar.specs.Limits.{nodes}
use Rattle.anvil_grammar.proofs.Walked.TakenFirst.{joins}

abbrev pub begin : Counted → ℕ → Begin
begin kind at = record { kind = kind; at = at }

abbrev pub node_at : ℕ → List Begin
node_at at = begin counted.Expr at ∷ []

-- an operator stands between its operands
pub nodes_joined : (joining : Joining) (kind : TokenKind) (sign : BinOp) → operator_of joining kind ≡ Some sign → (at : ℕ) (left right : Expr)
    → nodes (tree.binary at sign left right) ≡ nodes left ++ (begin counted.Expr at ∷ nodes right)
nodes_joined joining kind sign is at left right =
    let what = joins joining kind sign is in
    rw (what.between at (nodes_of left) (nodes_of right)) (map-append (λ place. begin counted.Expr place) (nodes_of left) (at ∷ nodes_of right))

-- a function stands before them
with_function : (found sign : BinOp) (at : ℕ) (first second whole : List ℕ) → Some found ≡ Some sign → with_root at found first second ≡ whole
    → with_root at sign first second ≡ whole
with_function found sign at first second whole same known =
    let is : found ≡ sign = cc in
    subst (λ o. with_root at o first second ≡ whole) is known

before_both : (kind : TokenKind) (sign : BinOp) → function_of kind ≡ Some sign → (at : ℕ) (first second : List ℕ)
    → with_root at sign first second ≡ at ∷ (first ++ second)
before_both (Key key.Shl) sign is at first second = with_function operator.Shl sign at first second (at ∷ (first ++ second)) is refl
before_both (Key key.Shr) sign is at first second = with_function operator.Shr sign at first second (at ∷ (first ++ second)) is refl
before_both (Key key.Cat) sign is at first second = with_function operator.Cat sign at first second (at ∷ (first ++ second)) is refl
before_both kind sign is at first second = absurd cc

pub nodes_called : (kind : TokenKind) (sign : BinOp) → function_of kind ≡ Some sign → (at : ℕ) (first second : Expr)
    → nodes (tree.binary at sign first second) ≡ begin counted.Expr at ∷ (nodes first ++ nodes second)
nodes_called kind sign is at first second =
    rw (before_both kind sign is at (nodes_of first) (nodes_of second)) (rw (map-append (λ place. begin counted.Expr place) (nodes_of first) (nodes_of second)) refl)

-- `?` stands between the condition and the two choices
pub nodes_chosen : (at : ℕ) (condition first second : Expr)
    → nodes (tree.choice at condition first second) ≡ nodes condition ++ (begin counted.Expr at ∷ (nodes first ++ nodes second))
nodes_chosen at condition first second =
    rw (map-append (λ place. begin counted.Expr place) (nodes_of condition) (at ∷ (nodes_of first ++ nodes_of second)))
    (rw (map-append (λ place. begin counted.Expr place) (nodes_of first) (nodes_of second)) refl)
