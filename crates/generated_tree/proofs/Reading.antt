-- The kinds of the tokens of a source are what is read of its characters, token by token: past blanks and comments the longest lexeme
-- says a token, and the reading goes on behind the lexeme. No place plays a part, so the same text is read alike wherever it stands.
--
-- Each token of the source begins past a gap, which is what the reader skips; it is what the longest lexeme there says; and its
-- bytes are those of the lexeme, so behind it stand the characters behind the lexeme.
use Rattle.std.proofs.Common.{◌≡◌, ℕ, ◌+◌, ◌-◌, zero, suc, false, true, Bool, cond, List, [], ◌∷◌, ◌++◌, map, refl, ap, sym, ◌∙◌, subst, length, drop, arith, Option, Some, None, Result, Ok, Err, append_assoc}
use Rattle.std.specs.Str.{IsUtf8, encode_utf8_all, chars}
use Rattle.std.proofs.lemmas.Str.{chars-nil}
use Rattle.std.proofs.lemmas.List.{drop-drop, drop_at, append-nil}
use Rattle.anvil_lexer.specs.declared.error.LexErr.{LexErr}
use Rattle.anvil_lexer.specs.declared.token.TokenKind.{TokenKind}
use Rattle.anvil_lexer.specs.declared.token.TokenKind.TheVariants.{End}
use Rattle.anvil_lexer.specs.declared.token.Token.{Token}
use Rattle.anvil_lexer.specs.Lexeme.{Lexeme, identifier, number, literal, mark, characters_of}
use Rattle.anvil_lexer.specs.Gap.{begins_gap}
use Rattle.anvil_lexer.specs.TokenText.{said_by, AreTokensFrom, ended, token_next, IsTokenAt, IsGapBetween, IsGapToEnd}
use Rattle.anvil_lexer.specs.Scan.{scan, skip}
use Rattle.anvil_lexer.proofs.Longest.{scan_read}
use Rattle.anvil_lexer.proofs.Gaps.{skip_found, skip_last}
use Rattle.anvil_lexer.proofs.Bytes.{after_characters, cut_characters, front_joins}
use Rattle.anvil_lexer.proofs.Places.{longest_scanned}
use Rattle.anvil_lexer.proofs.Steps.{says_step}

-- the kinds of some tokens, and the characters behind them
abbrev pub Taken : Type 0
Taken = List TokenKind × List ℕ

-- the kind, where a token is said
abbrev pub kind_said : Result TokenKind LexErr → Option TokenKind
kind_said (Ok kind) = Some kind
kind_said (Err e) = None

abbrev with_kind : Option TokenKind → Option Taken → Option Taken
with_kind None taken = None
with_kind (Some kind) None = None
with_kind (Some kind) (Some taken) = Some (kind ∷ taken.0, taken.1)

-- the characters behind a lexeme that they begin with
abbrev pub behind : Lexeme → List ℕ → List ℕ
behind lexeme cs = drop (length (characters_of lexeme)) cs

abbrev taken_by : (List ℕ → Option Taken) → List ℕ → Option Lexeme → Option Taken
taken_by next cs None = None
taken_by next cs (Some lexeme) = with_kind (kind_said (said_by 0 lexeme (behind lexeme cs))) (next (behind lexeme cs))

-- so many tokens of a text
abbrev pub take_tokens : ℕ → List ℕ → Option Taken
take_tokens zero cs = Some ([], cs)
take_tokens (suc n) cs = taken_by (take_tokens n) (skip false cs) (scan (skip false cs))

abbrev pub kind_of : Token → TokenKind
kind_of token = token.kind

abbrev pub kinds_of : List Token → List TokenKind
kinds_of = map kind_of

same_taken : (one other : Taken) → Some one ≡ Some other → one ≡ other
same_taken one other same = cc

-- a lexeme says one kind, wherever it stands
alike_where : (b : Bool) (kind : TokenKind) (e f : LexErr) → kind_said (cond b (Ok kind) (Err e)) ≡ kind_said (cond b (Ok kind) (Err f))
alike_where true kind e f = refl
alike_where false kind e f = refl

alike_unless : (b : Bool) (kind : TokenKind) (e f : LexErr) → kind_said (cond b (Err e) (Ok kind)) ≡ kind_said (cond b (Err f) (Ok kind))
alike_unless true kind e f = refl
alike_unless false kind e f = refl

said_alike : (at : ℕ) (lexeme : Lexeme) (after : List ℕ) → kind_said (said_by 0 lexeme after) ≡ kind_said (said_by at lexeme after)
said_alike at (identifier first others) after = alike_where _ _ _ _
said_alike at (number digits) after = alike_unless _ _ _ _
said_alike at (literal width base digits) after = alike_unless _ _ _ _
said_alike at (mark m) after = refl

module _ (source : List ℕ) where
  -- what is skipped before a place that no gap begins at
  gap_skipped : (from to : ℕ) → IsUtf8 (drop from source) → IsGapBetween source from to
      → IsUtf8 (drop to source) × (begins_gap (chars (drop to source)) ≡ false → skip false (chars (drop from source)) ≡ chars (drop to source))
  gap_skipped from to utf8 between =
      let joined = front_joins (to - from) (encode_utf8_all between.1.0) (drop from source) between.1.1 in
      let rest_is : drop (to - from) (drop from source) ≡ drop to source = drop-drop (to - from) from source
      ∙ ap (λ n. drop n source) (omega arith) in
      let after = after_characters between.1.0 (drop from source) (drop (to - from) (drop from source)) utf8 joined in (
        subst IsUtf8 rest_is after.0,
        λ stops. ap (λ l. skip false l) (after.1 ∙ ap (λ l. between.1.0 ++ chars l) rest_is)
            ∙ skip_found between.1.0 (chars (drop to source)) between.1.2 stops,
      )

  -- nothing is left before the end
  end_skipped : (from : ℕ) → IsUtf8 (drop from source) → IsGapToEnd source from → skip false (chars (drop from source)) ≡ []
  end_skipped from utf8 (gap, joined, last) =
      let after = after_characters gap (drop from source) [] utf8 (joined ∙ sym (append-nil (encode_utf8_all gap))) in
      let gap_is : chars (drop from source) ≡ gap = after.1 ∙ ap (λ l. gap ++ l) chars-nil ∙ append-nil gap in
      ap (λ l. skip false l) gap_is ∙ skip_last gap last

  -- a token, by the characters before it
  record IsTaken (from : ℕ) (token : Token) : Type 0 where
    pub lexeme : Lexeme
    pub scanned : scan (skip false (chars (drop from source))) ≡ Some lexeme
    pub says : kind_said (said_by 0 lexeme (behind lexeme (skip false (chars (drop from source))))) ≡ Some token.kind
    pub after : chars (drop (token.at + token.len) source) ≡ behind lexeme (skip false (chars (drop from source)))
    pub utf8 : IsUtf8 (drop (token.at + token.len) source)

  token_taken : (from : ℕ) (token : Token) → IsUtf8 (drop from source) → IsGapBetween source from token.at → IsTokenAt source token
      → IsTaken from token
  token_taken from token utf8 between is =
      let gap = gap_skipped from token.at utf8 between in
      let says = says_step source token.at token.len (Ok token.kind) gap.0 is in
      let left : skip false (chars (drop from source)) ≡ chars (drop token.at source) = gap.1 says.2 in
      let scanned = longest_scanned (drop token.at source) is.lexeme gap.0 is.longest in
      let read = scan_read (chars (drop token.at source)) is.lexeme scanned in
      let cut = cut_characters (characters_of is.lexeme) read.rest (drop token.at source) gap.0 read.joined in
      let rest_is : drop (length (encode_utf8_all (characters_of is.lexeme))) (drop token.at source) ≡ drop (token.at + token.len) source =
      drop-drop (length (encode_utf8_all (characters_of is.lexeme))) token.at source ∙ ap (λ n. drop (token.at + n) source) (sym is.long) in
      let behind_is : behind is.lexeme (skip false (chars (drop from source))) ≡ read.rest =
      ap (λ l. behind is.lexeme l) (left ∙ read.joined)
      ∙ drop_at (characters_of is.lexeme) read.rest (length (characters_of is.lexeme)) refl in
      let after_is : chars (drop (token.at + token.len) source) ≡ read.rest = ap chars (sym rest_is) ∙ cut.after_chars in
      record {
        lexeme = is.lexeme;
        scanned = ap scan left ∙ scanned;
        says = ap (λ l. kind_said (said_by 0 is.lexeme l)) (behind_is ∙ sym after_is)
            ∙ said_alike token.at is.lexeme (chars (drop (token.at + token.len) source))
            ∙ ap kind_said is.meaning;
        after = after_is ∙ sym behind_is;
        utf8 = says.1;
      }

  -- the tokens are those from a place on at which these characters are left
  abbrev pub IsLeft : List ℕ → List Token → Type 0
  IsLeft cs tokens = (from : ℕ) × IsUtf8 (drop from source) × (chars (drop from source) ≡ cs) × AreTokensFrom source from tokens

  -- of tokens and characters that are left, those that are taken and those that are left then
  pub record Goes (tokens : List Token) (kinds : List TokenKind) (rest : List ℕ) : Type 0 where
    pub later : List Token
    pub joined : kinds_of tokens ≡ kinds ++ kinds_of later
    pub left : IsLeft rest later

  -- one token, where one is there
  goes_one : (from : ℕ) (tokens : List Token) (cs : List ℕ) (lexeme : Lexeme) (kind : TokenKind) → IsUtf8 (drop from source)
      → chars (drop from source) ≡ cs → AreTokensFrom source from tokens
      → scan (skip false cs) ≡ Some lexeme → kind_said (said_by 0 lexeme (behind lexeme (skip false cs))) ≡ Some kind
      → Goes tokens (kind ∷ []) (behind lexeme (skip false cs))
  unfolding scan
  goes_one from tokens cs lexeme kind utf8 same (ended f end) scanned says =
      let none : scan (skip false cs) ≡ None = ap (λ l. scan (skip false l)) (sym same) ∙ ap scan (end_skipped from utf8 end) in
      let both : None ≡ Some lexeme = sym none ∙ scanned in
      absurd cc
  goes_one from tokens cs lexeme kind utf8 same (token_next f token rest gap is are) scanned says =
      let taken = token_taken from token utf8 gap is in
      let named : taken.lexeme ≡ lexeme =
      let both : Some taken.lexeme ≡ Some lexeme = sym taken.scanned ∙ ap (λ l. scan (skip false l)) same ∙ scanned in cc in
      let left : behind taken.lexeme (skip false (chars (drop from source))) ≡ behind lexeme (skip false cs) =
      rw (named, same) refl in
      let kind_is : token.kind ≡ kind =
      let both : Some token.kind ≡ Some kind = sym taken.says ∙ rw (named, same) says in cc in
      record {
        later = rest;
        joined = ap (λ k. k ∷ kinds_of rest) kind_is;
        left = (token.at + token.len, taken.utf8, taken.after ∙ left, are);
      }

  -- as many as are taken
  abbrev GoFor : ℕ → Type 0
  GoFor n =
      (tokens : List Token) (cs rest : List ℕ) (kinds : List TokenKind) → IsLeft cs tokens → take_tokens n cs ≡ Some (kinds, rest)
      → Goes tokens kinds rest

  go_by_kind : (n : ℕ) → GoFor n → (tokens : List Token) (cs rest : List ℕ) (kinds : List TokenKind) → IsLeft cs tokens
      → (lexeme : Lexeme) (said : Option TokenKind) (more : Option Taken) → scan (skip false cs) ≡ Some lexeme
      → kind_said (said_by 0 lexeme (behind lexeme (skip false cs))) ≡ said → take_tokens n (behind lexeme (skip false cs)) ≡ more
      → with_kind said more ≡ Some (kinds, rest) → Goes tokens kinds rest
  go_by_kind n go tokens cs rest kinds left lexeme None more scanned says next taken = absurd cc
  go_by_kind n go tokens cs rest kinds left lexeme (Some kind) None scanned says next taken = absurd cc
  go_by_kind n go tokens cs rest kinds left lexeme (Some kind) (Some (others, end)) scanned says next taken =
      let one = goes_one left.0 tokens cs lexeme kind left.1 left.2 left.3 scanned says in
      let more = go one.later (behind lexeme (skip false cs)) end others one.left next in
      let same = same_taken (kind ∷ others, end) (kinds, rest) taken in
      let kinds_are : kind ∷ others ≡ kinds = ap (λ (t : Taken). t.0) same in
      let rest_is : end ≡ rest = ap (λ (t : Taken). t.1) same in
      record {
        later = more.later;
        joined = one.joined ∙ ap (λ l. kind ∷ l) more.joined ∙ ap (λ l. l ++ kinds_of more.later) kinds_are;
        left = subst (λ (l : List ℕ). IsLeft l more.later) rest_is more.left;
      }

  go_by_lexeme : (n : ℕ) → GoFor n → (tokens : List Token) (cs rest : List ℕ) (kinds : List TokenKind) → IsLeft cs tokens
      → (found : Option Lexeme) → scan (skip false cs) ≡ found → taken_by (take_tokens n) (skip false cs) found ≡ Some (kinds, rest)
      → Goes tokens kinds rest
  go_by_lexeme n go tokens cs rest kinds left None scanned taken = absurd cc
  go_by_lexeme n go tokens cs rest kinds left (Some lexeme) scanned taken =
      go_by_kind n go tokens cs rest kinds left lexeme _ _ scanned refl refl taken

  pub goes : (n : ℕ) → GoFor n
  goes zero tokens cs rest kinds left taken =
      let same = same_taken ([], cs) (kinds, rest) taken in
      record {
        later = tokens;
        joined = ap (λ (t : Taken). t.0 ++ kinds_of tokens) same;
        left = subst (λ (t : Taken). IsLeft t.1 tokens) same left;
      }
  goes (suc n) tokens cs rest kinds left taken = go_by_lexeme n (goes n) tokens cs rest kinds left (scan (skip false cs)) refl taken

  -- where nothing is left but blanks and comments, the end
  pub end_is_left : (tokens : List Token) (cs : List ℕ) → IsLeft cs tokens → skip false cs ≡ [] → kinds_of tokens ≡ End ∷ []
  unfolding scan
  end_is_left tokens cs (from, utf8, same, ended f end) none = refl
  end_is_left tokens cs (from, utf8, same, token_next f token rest gap is are) none =
      let taken = token_taken from token utf8 gap is in
      let nothing : scan (skip false (chars (drop from source))) ≡ None = ap (λ l. scan (skip false l)) same ∙ ap scan none in
      let both : Some taken.lexeme ≡ None = sym taken.scanned ∙ nothing in
      absurd cc

-- wherever these characters are left, tokens of these kinds come next, and then those characters are left
abbrev pub Reads : List ℕ → List TokenKind → List ℕ → Type 0
Reads cs kinds rest = (source : List ℕ) (tokens : List Token) → IsLeft source cs tokens → Goes source tokens kinds rest

pub reads : (n : ℕ) (cs : List ℕ) (kinds : List TokenKind) (rest : List ℕ) → take_tokens n cs ≡ Some (kinds, rest) → Reads cs kinds rest
reads n cs kinds rest taken source tokens left = goes source n tokens cs rest kinds left taken

pub reads_on : {cs middle rest : List ℕ} {kinds more : List TokenKind} → Reads cs kinds middle → Reads middle more rest
    → Reads cs (kinds ++ more) rest
reads_on {kinds = kinds} {more = more} first second source tokens left =
    let one = first source tokens left in
    let two = second source one.later one.left in
    record {
      later = two.later;
      joined = one.joined ∙ ap (λ l. kinds ++ l) two.joined ∙ sym (append_assoc kinds more (kinds_of two.later));
      left = two.left;
    }
