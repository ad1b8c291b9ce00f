-- How keywords and marks are spelled. All their characters are ASCII, so that characters and bytes are the same.
use Rattle.std.specs.Prelude.{ℕ, List, [], ◌∷◌, codes, if◌then◌else◌}
use Rattle.std.specs.Str.{bytes_eq}
use Rattle.anvil_lexer.specs.declared.token.Keyword.{Keyword}
use Rattle.anvil_lexer.specs.declared.token.Keyword.TheVariants as keyword
use Rattle.anvil_lexer.specs.declared.token.Mark.{Mark}
use Rattle.anvil_lexer.specs.declared.token.Mark.TheVariants as mark
use Rattle.anvil_lexer.specs.declared.token.TokenKind.{TokenKind}
use Rattle.anvil_lexer.specs.declared.token.TokenKind.TheVariants.{Key, Word}

abbrev pub keyword_text : Keyword → List ℕ
keyword_text keyword.Chan = codes "chan"
keyword_text keyword.Proc = codes "proc"
keyword_text keyword.Left = codes "left"
keyword_text keyword.Right = codes "right"
keyword_text keyword.Logic = codes "logic"
keyword_text keyword.Reg = codes "reg"
keyword_text keyword.Loop = codes "loop"
keyword_text keyword.Let = codes "let"
keyword_text keyword.Set = codes "set"
keyword_text keyword.Send = codes "send"
keyword_text keyword.Recv = codes "recv"
keyword_text keyword.Cycle = codes "cycle"
keyword_text keyword.If = codes "if"
keyword_text keyword.Else = codes "else"
keyword_text keyword.Shl = codes "shl"
keyword_text keyword.Shr = codes "shr"
keyword_text keyword.Cat = codes "cat"

abbrev pub keywords : List Keyword
keywords =
    keyword.Chan ∷ keyword.Proc ∷ keyword.Left ∷ keyword.Right ∷ keyword.Logic ∷ keyword.Reg ∷ keyword.Loop ∷ keyword.Let ∷ keyword.Set
    ∷ keyword.Send ∷ keyword.Recv ∷ keyword.Cycle ∷ keyword.If ∷ keyword.Else ∷ keyword.Shl ∷ keyword.Shr ∷ keyword.Cat ∷ []

abbrev pub mark_text : Mark → List ℕ
mark_text mark.OpenBrace = codes "{"
mark_text mark.CloseBrace = codes "}"
mark_text mark.OpenParen = codes "("
mark_text mark.CloseParen = codes ")"
mark_text mark.OpenBracket = codes "["
mark_text mark.CloseBracket = codes "]"
mark_text mark.Comma = codes ","
mark_text mark.Semicolon = codes ";"
mark_text mark.Colon = codes ":"
mark_text mark.Assign = codes ":="
mark_text mark.Equals = codes "="
mark_text mark.Dot = codes "."
mark_text mark.At = codes "@"
mark_text mark.Hash = codes "#"
mark_text mark.Question = codes "?"
mark_text mark.Chain = codes ">>"
mark_text mark.Tilde = codes "~"
mark_text mark.Plus = codes "+"
mark_text mark.Minus = codes "-"
mark_text mark.Star = codes "*"
mark_text mark.Amp = codes "&"
mark_text mark.Bar = codes "|"
mark_text mark.Caret = codes "^"
mark_text mark.EqEq = codes "=="
mark_text mark.NotEq = codes "!="
mark_text mark.Less = codes "<"
mark_text mark.LessEq = codes "<="
mark_text mark.Greater = codes ">"
mark_text mark.GreaterEq = codes ">="

-- the keyword of the list that is spelled so, and else a word
abbrev pub word_among : List Keyword → List ℕ → TokenKind
word_among [] text = Word text
word_among (key ∷ keys) text = if bytes_eq (keyword_text key) text then Key key else word_among keys text

unfoldable pub kind_of_word : List ℕ → TokenKind
kind_of_word = word_among keywords
