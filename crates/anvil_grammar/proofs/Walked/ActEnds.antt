-- What ends an act: `>>`, `;` or `}` follows it. None of them goes on with an expression, and none is `else`, so what is whole ahead
-- of one of them is whole: the value that is set, the expression that is an act, and an `if` with one side.
use Rattle.std.proofs.Common.{◌≡◌, ℕ, List, [], ◌∷◌, Bool, true, false, None, refl, arith}
use Rattle.std.specs.Prelude.{⊤}
use Rattle.anvil_lexer.specs.declared.token.Token.{Token}
use Rattle.anvil_lexer.specs.declared.token.TokenKind.{TokenKind}
use Rattle.anvil_lexer.specs.declared.token.TokenKind.TheVariants.{Key, Mark}
use Rattle.anvil_lexer.specs.declared.token.Keyword.TheVariants as key
use Rattle.anvil_lexer.specs.declared.token.Mark.TheVariants as mark
use Rattle.anvil_tree.specs.Tree as tree
use Rattle.anvil_tree.specs.Tree.{Name, Expr, Term, Act}
use Rattle.anvil_tree.specs.Places.{place_of_expr}
use Rattle.anvil_grammar.specs.Words.{Is}
use Rattle.anvil_grammar.specs.State.{Label, Frame, setting, evaluating, binding, following, besides, term_wanted}
use Rattle.anvil_grammar.specs.Step.{strength, operator_at, operand_ends, moves, term_ends, act_step, else_step}
use Rattle.anvil_grammar.proofs.Walked.TakenFirst.{opens_slice}
use Rattle.anvil_grammar.proofs.Walked.Levels.{Stops}

abbrev pub ends_act : TokenKind → Bool
ends_act (Mark mark.Chain) = true
ends_act (Mark mark.Semicolon) = true
ends_act (Mark mark.CloseBrace) = true
ends_act kind = false

abbrev pub EndsAct : List Token → Type 0
EndsAct [] = ⊥
EndsAct (token ∷ rest) = ends_act token.kind ≡ true

-- a term ends before `}`
abbrev pub EndsTerm : List Token → Type 0
EndsTerm [] = ⊥
EndsTerm (token ∷ rest) = Is (Mark mark.CloseBrace) token

pub act_ends_at : (kind : TokenKind) (token : Token) (rest : List Token) → Is kind token → ends_act kind ≡ true → EndsAct (token ∷ rest)
act_ends_at kind token rest is ends = rw is ends

pub term_ends_act : (rest : List Token) → EndsTerm rest → EndsAct rest
term_ends_act [] ends = ends
term_ends_act (token ∷ rest) ends = act_ends_at (Mark mark.CloseBrace) token rest ends refl

-- it goes on with no expression
record Weakest (kind : TokenKind) : Type 0 where
  weak : strength kind ≡ 0
  no_operator : operator_at kind ≡ None
  no_slice : opens_slice kind ≡ false

weakest : (kind : TokenKind) → ends_act kind ≡ true → Weakest kind
weakest (Mark mark.Chain) ends = record { weak = refl; no_operator = refl; no_slice = refl }
weakest (Mark mark.Semicolon) ends = record { weak = refl; no_operator = refl; no_slice = refl }
weakest (Mark mark.CloseBrace) ends = record { weak = refl; no_operator = refl; no_slice = refl }
weakest kind ends = absurd cc

pub act_stops : (rest : List Token) → EndsAct rest → Stops 1 rest
act_stops [] ends = absurd ends
act_stops (token ∷ rest) ends =
    let what = weakest token.kind ends in
    let weak = what.weak in
    (omega (arith, weak), what.no_slice)

pub set_ends : (stack : List Frame) (at : ℕ) (register : Label) (value : Expr) (token : Token) → ends_act token.kind ≡ true
    → operand_ends (setting at register ∷ stack) value token ≡ act_step stack (tree.set at register.name register.at value) token.kind
set_ends stack at register value token ends =
    let what = weakest token.kind ends in
    rw what.no_operator (rw what.weak refl)

pub expression_ends : (stack : List Frame) (expr : Expr) (token : Token) → ends_act token.kind ≡ true
    → operand_ends (evaluating ∷ stack) expr token ≡ act_step stack (tree.pure (place_of_expr expr) expr) token.kind
expression_ends stack expr token ends =
    let what = weakest token.kind ends in
    rw what.no_operator (rw what.weak refl)

pub when_ends : (stack : List Frame) (at : ℕ) (condition : Expr) (first : Term) (kind : TokenKind) → ends_act kind ≡ true
    → else_step stack at condition first kind ≡ act_step stack (tree.when at condition first) kind
when_ends stack at condition first (Key key.Else) ends = absurd cc
when_ends stack at condition first kind ends = refl

-- no value is bound to a name on top of the stack
abbrev pub Unbound : List Frame → Type 0
Unbound (binding name ∷ stack) = ⊥
Unbound stack = ⊤

pub last_act : (stack : List Frame) (act : Act) → Unbound stack → act_step stack act (Mark mark.CloseBrace) ≡ term_ends stack (tree.single act)
last_act (binding name ∷ stack) act unbound = absurd unbound
last_act stack act unbound = refl

pub followed_act : (stack : List Frame) (act : Act) → Unbound stack → act_step stack act (Mark mark.Chain) ≡ moves (following None act ∷ stack) term_wanted
followed_act (binding name ∷ stack) act unbound = absurd unbound
followed_act stack act unbound = refl

pub act_beside : (stack : List Frame) (act : Act) → Unbound stack → act_step stack act (Mark mark.Semicolon) ≡ moves (besides None act ∷ stack) term_wanted
act_beside (binding name ∷ stack) act unbound = absurd unbound
act_beside stack act unbound = refl
