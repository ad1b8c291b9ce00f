-- Small files with their trees, computed: the tokens of each are written out with their places and lengths.
use Rattle.std.proofs.Common.{◌≡◌, ℕ, List, [], ◌∷◌, Some, None, refl}
use Rattle.std.specs.Prelude.{codes}
use Rattle.anvil_lexer.specs.declared.token.Token.{Token}
use Rattle.anvil_lexer.specs.declared.token.TokenKind.{TokenKind}
use Rattle.anvil_lexer.specs.declared.token.TokenKind.TheVariants.{Key, Word, Number, Literal, Mark, End}
use Rattle.anvil_lexer.specs.declared.token.Keyword.TheVariants as key
use Rattle.anvil_lexer.specs.declared.token.Mark.TheVariants as mark
use Rattle.anvil_tree.specs.declared.expr.BinOp.TheVariants as operator
use Rattle.anvil_tree.specs.declared.file.Side.TheVariants as side
use Rattle.anvil_tree.specs.declared.file.LifeText.TheVariants.{Cycles, Until}
use Rattle.anvil_tree.specs.Tree as tree
use Rattle.anvil_tree.specs.Tree.{Expr, Term, File}
use Rattle.anvil_grammar.specs.Grammar.{IsUnary, grouped, variable, alone, begun, ended, IsExpr, plain, single, beside, cycle, block, pure, more, without, of_parts, IsFile, process_next}
use Rattle.anvil_tree.specs.Order.{places_of_file}
use Rattle.anvil_grammar.specs.Limits.{begun_in, open_brackets}
use Rattle.anvil_grammar.specs.Begun.{Begin}
use Rattle.anvil_grammar.specs.State as states
use Rattle.anvil_grammar.specs.Step.{walk, stands, unexpected_at}
use Rattle.anvil_grammar.specs.declared.error.Counted.{Counted}
use Rattle.anvil_grammar.specs.declared.error.Counted.TheVariants as counted
use Rattle.anvil_grammar.proofs.Kept.File.{file_sound}

abbrev token : TokenKind → ℕ → ℕ → Token
token kind place length = record { kind = kind; at = place; len = length }

-- a process with one thread of this term
abbrev running : Term → File
running term = tree.process (record { name = codes "c"; at = 5; endpoints = []; registers = []; threads = term ∷ [] }) ∷ []

-- proc c() { reg a : logic[8]; loop { set a := *a + 8'd1 >> cycle 2 } }
abbrev counter : List Token
counter =
    token (Key key.Proc) 0 4 ∷ token (Word (codes "c")) 5 1 ∷ token (Mark mark.OpenParen) 6 1 ∷ token (Mark mark.CloseParen) 7 1 ∷
    token (Mark mark.OpenBrace) 9 1 ∷ token (Key key.Reg) 11 3 ∷ token (Word (codes "a")) 15 1 ∷ token (Mark mark.Colon) 17 1 ∷
    token (Key key.Logic) 19 5 ∷ token (Mark mark.OpenBracket) 24 1 ∷ token (Number 8) 25 1 ∷ token (Mark mark.CloseBracket) 26 1 ∷
    token (Mark mark.Semicolon) 27 1 ∷ token (Key key.Loop) 29 4 ∷ token (Mark mark.OpenBrace) 34 1 ∷ token (Key key.Set) 36 3 ∷
    token (Word (codes "a")) 40 1 ∷ token (Mark mark.Assign) 42 2 ∷ token (Mark mark.Star) 45 1 ∷ token (Word (codes "a")) 46 1 ∷
    token (Mark mark.Plus) 48 1 ∷ token (Literal 8 1) 50 4 ∷ token (Mark mark.Chain) 55 2 ∷ token (Key key.Cycle) 58 5 ∷ token (Number 2) 64 1 ∷
    token (Mark mark.CloseBrace) 66 1 ∷ token (Mark mark.CloseBrace) 68 1 ∷ token End 69 0 ∷ []

counter_tree : IsFile counter
    (tree.process (record {
      name = codes "c";
      at = 5;
      endpoints = [];
      registers = record { name = codes "a"; at = 15; width = 8; width_at = 25; reset = None } ∷ [];
      threads = tree.follow None (tree.set 36 (codes "a") 40 (tree.binary 48 operator.Add (tree.shown 45 (codes "a")) (tree.literal 50 8 1))) (tree.single (tree.cycle 58 2 64)) ∷ [];
    }) ∷ [])
counter_tree = file_sound counter _ _ refl

-- proc c() { loop { (a) - b - c * ~d } }
abbrev differences : List Token
differences =
    token (Key key.Proc) 0 4 ∷ token (Word (codes "c")) 5 1 ∷ token (Mark mark.OpenParen) 6 1 ∷ token (Mark mark.CloseParen) 7 1 ∷
    token (Mark mark.OpenBrace) 9 1 ∷ token (Key key.Loop) 11 4 ∷ token (Mark mark.OpenBrace) 16 1 ∷ token (Mark mark.OpenParen) 18 1 ∷
    token (Word (codes "a")) 19 1 ∷ token (Mark mark.CloseParen) 20 1 ∷ token (Mark mark.Minus) 22 1 ∷ token (Word (codes "b")) 24 1 ∷
    token (Mark mark.Minus) 26 1 ∷ token (Word (codes "c")) 28 1 ∷ token (Mark mark.Star) 30 1 ∷ token (Mark mark.Tilde) 32 1 ∷
    token (Word (codes "d")) 33 1 ∷ token (Mark mark.CloseBrace) 35 1 ∷ token (Mark mark.CloseBrace) 37 1 ∷ token End 38 0 ∷ []

-- operators of one level group to the left; the act has the place of its root node
differences_tree : IsFile differences
    (running (tree.single (tree.pure 26 (tree.binary 26 operator.Sub (tree.binary 22 operator.Sub (tree.variable 19 (codes "a")) (tree.variable 24 (codes "b")))
    (tree.binary 30 operator.Mul (tree.variable 28 (codes "c")) (tree.inverse 32 (tree.variable 33 (codes "d"))))))))
differences_tree = file_sound differences _ _ refl

-- proc c() { loop { let x = a ; () >> x } }
abbrev chained : List Token
chained =
    token (Key key.Proc) 0 4 ∷ token (Word (codes "c")) 5 1 ∷ token (Mark mark.OpenParen) 6 1 ∷ token (Mark mark.CloseParen) 7 1 ∷
    token (Mark mark.OpenBrace) 9 1 ∷ token (Key key.Loop) 11 4 ∷ token (Mark mark.OpenBrace) 16 1 ∷ token (Key key.Let) 18 3 ∷
    token (Word (codes "x")) 22 1 ∷ token (Mark mark.Equals) 24 1 ∷ token (Word (codes "a")) 26 1 ∷ token (Mark mark.Semicolon) 28 1 ∷
    token (Mark mark.OpenParen) 30 1 ∷ token (Mark mark.CloseParen) 31 1 ∷ token (Mark mark.Chain) 33 2 ∷ token (Word (codes "x")) 36 1 ∷
    token (Mark mark.CloseBrace) 38 1 ∷ token (Mark mark.CloseBrace) 40 1 ∷ token End 41 0 ∷ []

-- chains group to the right
chained_tree : IsFile chained
    (running (tree.beside (Some (codes "x")) (tree.pure 26 (tree.variable 26 (codes "a"))) (tree.follow None (tree.pure 30 (tree.unit 30)) (tree.single (tree.pure 36 (tree.variable 36 (codes "x")))))))
chained_tree = file_sound chained _ _ refl

-- chan d { left m : (logic[8]@n), right n : (logic[1]@#3), }
abbrev messages : List Token
messages =
    token (Key key.Chan) 0 4 ∷ token (Word (codes "d")) 5 1 ∷ token (Mark mark.OpenBrace) 7 1 ∷ token (Key key.Left) 9 4 ∷
    token (Word (codes "m")) 14 1 ∷ token (Mark mark.Colon) 16 1 ∷ token (Mark mark.OpenParen) 18 1 ∷ token (Key key.Logic) 19 5 ∷
    token (Mark mark.OpenBracket) 24 1 ∷ token (Number 8) 25 1 ∷ token (Mark mark.CloseBracket) 26 1 ∷ token (Mark mark.At) 27 1 ∷
    token (Word (codes "n")) 28 1 ∷ token (Mark mark.CloseParen) 29 1 ∷ token (Mark mark.Comma) 30 1 ∷ token (Key key.Right) 32 5 ∷
    token (Word (codes "n")) 38 1 ∷ token (Mark mark.Colon) 40 1 ∷ token (Mark mark.OpenParen) 42 1 ∷ token (Key key.Logic) 43 5 ∷
    token (Mark mark.OpenBracket) 48 1 ∷ token (Number 1) 49 1 ∷ token (Mark mark.CloseBracket) 50 1 ∷ token (Mark mark.At) 51 1 ∷
    token (Mark mark.Hash) 52 1 ∷ token (Number 3) 53 1 ∷ token (Mark mark.CloseParen) 54 1 ∷ token (Mark mark.Comma) 55 1 ∷
    token (Mark mark.CloseBrace) 57 1 ∷ token End 58 0 ∷ []

-- a comma may stand behind the last message
messages_tree : IsFile messages
    (tree.class (record {
      name = codes "d";
      at = 5;
      messages =
          record { toward = side.Left; name = codes "m"; at = 14; width = 8; width_at = 25; life = Until (codes "n"); life_at = 28 } ∷
          record { toward = side.Right; name = codes "n"; at = 38; width = 1; width_at = 49; life = Cycles 3; life_at = 53 } ∷ [];
    }) ∷ [])
messages_tree = file_sound messages _ _ refl

-- proc c() { loop { a == b == c } }
abbrev compared_twice : List Token
compared_twice =
    token (Key key.Proc) 0 4 ∷ token (Word (codes "c")) 5 1 ∷ token (Mark mark.OpenParen) 6 1 ∷ token (Mark mark.CloseParen) 7 1 ∷
    token (Mark mark.OpenBrace) 9 1 ∷ token (Key key.Loop) 11 4 ∷ token (Mark mark.OpenBrace) 16 1 ∷ token (Word (codes "a")) 18 1 ∷
    token (Mark mark.EqEq) 20 2 ∷ token (Word (codes "b")) 23 1 ∷ token (Mark mark.EqEq) 25 2 ∷ token (Word (codes "c")) 28 1 ∷
    token (Mark mark.CloseBrace) 30 1 ∷ token (Mark mark.CloseBrace) 32 1 ∷ token End 33 0 ∷ []

-- proc c() { loop { { (a) } ; cycle 2 } }
abbrev acts : List Token
acts =
    token (Key key.Proc) 0 4 ∷ token (Word (codes "c")) 5 1 ∷ token (Mark mark.OpenParen) 6 1 ∷ token (Mark mark.CloseParen) 7 1 ∷
    token (Mark mark.OpenBrace) 9 1 ∷ token (Key key.Loop) 11 4 ∷ token (Mark mark.OpenBrace) 16 1 ∷ token (Mark mark.OpenBrace) 18 1 ∷
    token (Mark mark.OpenParen) 20 1 ∷ token (Word (codes "a")) 21 1 ∷ token (Mark mark.CloseParen) 22 1 ∷ token (Mark mark.CloseBrace) 24 1 ∷
    token (Mark mark.Semicolon) 26 1 ∷ token (Key key.Cycle) 28 5 ∷ token (Number 2) 34 1 ∷ token (Mark mark.CloseBrace) 36 1 ∷
    token (Mark mark.CloseBrace) 38 1 ∷ token End 39 0 ∷ []

-- an operand alone, as an expression of every level
abbrev as_expr : {from rest : List Token} {expr : Expr} → IsUnary from expr rest → IsExpr from expr rest
as_expr is = plain (begun (begun (begun (begun (begun (begun (alone is) ended) ended) ended) ended) ended) ended)

abbrev acts_are : IsFile acts (running (tree.beside None (tree.block 18 (tree.single (tree.pure 21 (tree.variable 21 (codes "a"))))) (tree.single (tree.cycle 28 2 34))))
acts_are = process_next (of_parts refl refl refl without refl refl ended
    (more refl refl (beside (block refl (single (pure (as_expr (grouped refl (as_expr (variable refl)) refl)))) refl) refl (single (cycle refl refl))) refl ended) refl)
    (ended refl)

abbrev begin : Counted → ℕ → Begin
begin kind place = record { kind = kind; at = place }

-- the things in the order of the text: acts by their first tokens, each before the acts inside it; the tree's places are those of
-- the parts
abbrev things : List Begin
things =
    begin counted.Process 0 ∷ begin counted.Thread 11 ∷ begin counted.Act 18 ∷ begin counted.Act 20 ∷ begin counted.Expr 21 ∷ begin counted.Act 28 ∷ []

things_begin : begun_in acts_are ≡ things
things_begin = refl

-- the reading token by token comes to the same
acts_walked : walk states.start acts ≡ record { begun = things; stop = stands (states.ended (running (tree.beside None (tree.block 18 (tree.single (tree.pure 21 (tree.variable 21 (codes "a"))))) (tree.single (tree.cycle 28 2 34))))) }
acts_walked = refl

-- comparisons don't chain: the second one is unexpected
compared_walked : (walk states.start compared_twice).stop ≡ unexpected_at 25
compared_walked = refl

differences_walked : (walk states.start differences).stop ≡ stands (states.ended (running (tree.single (tree.pure 26 (tree.binary 26 operator.Sub (tree.binary 22 operator.Sub (tree.variable 19 (codes "a")) (tree.variable 24 (codes "b")))
    (tree.binary 30 operator.Mul (tree.variable 28 (codes "c")) (tree.inverse 32 (tree.variable 33 (codes "d")))))))))
differences_walked = refl

chained_walked : (walk states.start chained).stop ≡ stands (states.ended
    (running (tree.beside (Some (codes "x")) (tree.pure 26 (tree.variable 26 (codes "a"))) (tree.follow None (tree.pure 30 (tree.unit 30)) (tree.single (tree.pure 36 (tree.variable 36 (codes "x"))))))))
chained_walked = refl

acts_places : places_of_file (running (tree.beside None (tree.block 18 (tree.single (tree.pure 21 (tree.variable 21 (codes "a"))))) (tree.single (tree.cycle 28 2 34)))) ≡ 5 ∷ 18 ∷ 21 ∷ 28 ∷ []
acts_places = refl

-- each bracket that opens is closed
brackets : open_brackets 0 acts ≡ 0
brackets = refl
