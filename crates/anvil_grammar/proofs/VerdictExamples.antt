-- Refusals of small lists of tokens, computed. Each stands in the thread of a process; tokens that are told by their number alone have
-- one place. The last `(` of 63 is one bracket too many behind the two `{` of the process and the thread; a `()` behind 256 `~` is the
-- node that is one too many, at the place of its `(`; and the 513th act of a thread is refused by its first token.
use Rattle.std.proofs.Common.{◌≡◌, ℕ, zero, suc, List, [], ◌∷◌, ◌++◌, replicate, refl}
use Rattle.std.specs.Prelude.{codes}
use Rattle.anvil_lexer.specs.declared.token.Token.{Token}
use Rattle.anvil_lexer.specs.declared.token.TokenKind.{TokenKind}
use Rattle.anvil_lexer.specs.declared.token.TokenKind.TheVariants.{Key, Word, Literal, Mark}
use Rattle.anvil_lexer.specs.declared.token.Keyword.TheVariants as key
use Rattle.anvil_lexer.specs.declared.token.Mark.TheVariants as mark
use Rattle.anvil_grammar.specs.declared.error.Counted.TheVariants as counted
use Rattle.anvil_grammar.specs.declared.error.ParseErr.TheVariants.{Unexpected, TooDeep, TooMany}
use Rattle.anvil_grammar.specs.Limited.{verdict, refused}

abbrev token : TokenKind → ℕ → Token
token kind place = record { kind = kind; at = place; len = 1 }

-- proc c() { loop {
abbrev opening : List Token
opening =
    token (Key key.Proc) 0 ∷ token (Word (codes "c")) 5 ∷ token (Mark mark.OpenParen) 6 ∷ token (Mark mark.CloseParen) 7 ∷ token (Mark mark.OpenBrace) 9 ∷
    token (Key key.Loop) 11 ∷ token (Mark mark.OpenBrace) 16 ∷ []

deep : verdict (opening ++ (replicate 62 (token (Mark mark.OpenParen) 18) ++ (token (Mark mark.OpenParen) 100 ∷ []))) ≡ refused (TooDeep 100)
deep = refl

many_nodes : verdict (opening ++ (replicate 256 (token (Mark mark.Tilde) 18) ++ (token (Mark mark.OpenParen) 300 ∷ token (Mark mark.CloseParen) 301 ∷ []))) ≡ refused (TooMany counted.Expr 300)
many_nodes = refl

-- a group begins no node at its `(`
many_nodes_grouped : verdict (opening ++ (replicate 256 (token (Mark mark.Tilde) 18) ++ (token (Mark mark.OpenParen) 300 ∷ token (Literal 1 0) 301 ∷ []))) ≡ refused (TooMany counted.Expr 301)
many_nodes_grouped = refl

-- 1'0 ;
abbrev acts : ℕ → List Token → List Token
acts zero rest = rest
acts (suc many) rest = token (Literal 1 0) 18 ∷ token (Mark mark.Semicolon) 22 ∷ acts many rest

many_acts : verdict (opening ++ acts 512 (token (Mark mark.OpenBrace) 5000 ∷ [])) ≡ refused (TooMany counted.Act 5000)
many_acts = refl

-- a token that cannot stand is unexpected, be it a bracket or not
stray : verdict (opening ++ (replicate 62 (token (Mark mark.OpenParen) 18) ++ (token (Mark mark.OpenBrace) 100 ∷ []))) ≡ refused (Unexpected 100)
stray = refl
