-- The tables of the code have the rows that the definitions have: each keyword and each mark with its spelling, in one order.
-- So what is looked up in them is what the definitions find.
use Rattle.std.proofs.Common.{◌≡◌, ℕ, Bool, true, false, List, [], ◌∷◌, refl, ap, sym, ◌∙◌, cond, Option, Some, None, map}
use Rattle.std.specs.Str.{bytes_eq}
use Rattle.anvil_lexer.specs.declared.table.TheConstants.{KEYWORDS, MARKS}
use Rattle.anvil_lexer.specs.declared.token.Keyword.{Keyword}
use Rattle.anvil_lexer.specs.declared.token.Mark.{Mark}
use Rattle.anvil_lexer.specs.declared.token.TokenKind.{TokenKind}
use Rattle.anvil_lexer.specs.declared.token.TokenKind.TheVariants.{Key, Word}
use Rattle.anvil_lexer.specs.Spelling.{keyword_text, keywords, word_among, kind_of_word, mark_text}
use Rattle.anvil_lexer.specs.Scan.{spelled_in, mark_among, marks, mark_spelled}

kind_found : List ℕ → Option Keyword → TokenKind
unfolding kind_of_word
kind_found text None = Word text
kind_found text (Some key) = Key key

word_looked_up : (keys : List Keyword) (text : List ℕ)
    → word_among keys text ≡ kind_found text (spelled_in (map (λ key. (keyword_text key, key)) keys) text)
unfolding kind_found
word_looked_up [] text = refl
word_looked_up (key ∷ keys) text = go (bytes_eq (keyword_text key) text) (word_looked_up keys text)
  where
    go : (b : Bool) → word_among keys text ≡ kind_found text (spelled_in (map (λ key. (keyword_text key, key)) keys) text)
        → cond b (Key key) (word_among keys text) ≡ kind_found text
        (cond b (Some key) (spelled_in (map (λ key. (keyword_text key, key)) keys) text))
    go true later = refl
    go false later = later

keyword_kind : (text : List ℕ) (found : Option Keyword) → found ≡ spelled_in (map (λ row. (row.0.now, row.1)) KEYWORDS) text
    → kind_of_word text ≡ kind_found text found
unfolding kind_of_word
keyword_kind text found is = word_looked_up keywords text ∙ ap (kind_found text) (sym is)

pub keyword_is : (text : List ℕ) (key : Keyword) → Some key ≡ spelled_in (map (λ row. (row.0.now, row.1)) KEYWORDS) text
    → Key key ≡ kind_of_word text
unfolding kind_found
keyword_is text key is = sym (keyword_kind text (Some key) is)

pub word_is : (text : List ℕ) → None ≡ spelled_in (map (λ row. (row.0.now, row.1)) KEYWORDS) text → Word text ≡ kind_of_word text
unfolding kind_found
word_is text is = sym (keyword_kind text None is)

mark_looked_up : (ms : List Mark) (text : List ℕ) → mark_among ms text ≡ spelled_in (map (λ m. (mark_text m, m)) ms) text
mark_looked_up [] text = refl
mark_looked_up (m ∷ ms) text = ap (λ r. cond (bytes_eq (mark_text m) text) (Some m) r) (mark_looked_up ms text)

pub mark_is : (text : List ℕ) → spelled_in (map (λ row. (row.0.now, row.1)) MARKS) text ≡ mark_spelled text
unfolding mark_spelled
mark_is text = sym (mark_looked_up marks text)
