-- What comes next at a place of a source in UTF-8: the definitions of token texts allow one step, and the reader takes it.
-- A gap is skipped whole because neither a token nor a refusal begins with a blank or a comment; then the place is told by how
-- many bytes are left, and the longest lexeme and what it says by the characters that are left.
use Rattle.std.proofs.Common.{◌≡◌, ℕ, ◌+◌, ◌-◌, ◌<◌, false, List, [], ◌∷◌, ◌++◌, refl, ap, sym, ◌∙◌, subst, length, drop, arith, Some, None, Result, Ok, Err}
use Rattle.std.specs.Str.{IsUtf8, encode_utf8_all, chars}
use Rattle.std.proofs.lemmas.Str.{encodes-chars, chars-nil}
use Rattle.std.proofs.lemmas.List.{length-drop, drop-drop, drop_at, append-nil}
use Rattle.anvil_lexer.specs.declared.error.LexErr.{LexErr}
use Rattle.anvil_lexer.specs.declared.error.LexErr.TheVariants.{BadChar}
use Rattle.anvil_lexer.specs.declared.token.TokenKind.{TokenKind}
use Rattle.anvil_lexer.specs.declared.token.Token.{Token}
use Rattle.anvil_lexer.specs.Lexeme.{Lexeme, characters_of, text_of}
use Rattle.anvil_lexer.specs.Gap.{IsGap, begins_gap}
use Rattle.anvil_lexer.specs.TokenText.{said_by, Says, IsTokenAt, IsRefusalAt, unmade, unknown, IsGapBetween, IsGapToEnd}
use Rattle.anvil_lexer.specs.Scan.{scan, skip, Step, at_end, made, refusal, said, stepped, step}
use Rattle.anvil_lexer.proofs.Longest.{scan_read}
use Rattle.anvil_lexer.proofs.Gaps.{skip_found, skip_last}
use Rattle.anvil_lexer.proofs.Bytes.{after_characters, cut_characters, front_joins, some_bytes}
use Rattle.anvil_lexer.proofs.Places.{longest_scanned, scanned_longest, none_found, lexeme_no_gap}

pub step_some : (at : ℕ) (cs : List ℕ) (lexeme : Lexeme) → scan cs ≡ Some lexeme → step at cs ≡ stepped at cs (Some lexeme)
unfolding scan
step_some at [] lexeme e = absurd cc
step_some at (c ∷ cs) lexeme e = ap (stepped at (c ∷ cs)) e

pub step_none : (at : ℕ) (cs : List ℕ) → 0 < length cs → scan cs ≡ None → step at cs ≡ refusal (BadChar at)
step_none at [] some e = absurd (omega arith)
step_none at (c ∷ cs) some e = ap (stepped at (c ∷ cs)) e

some_left : (bytes : List ℕ) → IsUtf8 bytes → 0 < length bytes → 0 < length (chars bytes)
some_left bytes utf8 some = go (chars bytes) refl
  where
    go : (cs : List ℕ) → chars bytes ≡ cs → 0 < length cs
    go [] e = let none : [] ≡ bytes = sym (ap encode_utf8_all e) ∙ encodes-chars bytes utf8 in absurd (omega (arith, ap length none))
    go (c ∷ cs) e = omega arith

module _ (source : List ℕ) where
  -- what the longest lexeme at a place says is what the step says there
  pub says_step : (at len : ℕ) (result : Result TokenKind LexErr) → IsUtf8 (drop at source) → Says source at len result
      → (step at (chars (drop at source)) ≡ said at len result) × IsUtf8 (drop (at + len) source) ×
      (begins_gap (chars (drop at source)) ≡ false)
  says_step at len result utf8 says =
      let scanned = longest_scanned (drop at source) says.lexeme utf8 says.longest in
      let read = scan_read (chars (drop at source)) says.lexeme scanned in
      let cut = cut_characters (characters_of says.lexeme) read.rest (drop at source) utf8 read.joined in
      let rest_is : drop (length (text_of says.lexeme)) (drop at source) ≡ drop (at + len) source =
      drop-drop (length (text_of says.lexeme)) at source ∙ ap (λ n. drop (at + n) source) (sym says.long) in
      let after_is : drop (length (characters_of says.lexeme)) (chars (drop at source)) ≡ chars (drop (at + len) source) =
      ap (λ l. drop (length (characters_of says.lexeme)) l) read.joined
      ∙ drop_at (characters_of says.lexeme) read.rest (length (characters_of says.lexeme)) refl ∙ sym cut.after_chars
      ∙ ap chars rest_is in (
        step_some at (chars (drop at source)) says.lexeme scanned ∙ rw (after_is, says.meaning, says.long) refl,
        subst IsUtf8 rest_is cut.after_utf8,
        ap begins_gap read.joined ∙ lexeme_no_gap says.lexeme read.rest read.formed,
      )

  -- and the other way round
  pub step_says : (at : ℕ) (lexeme : Lexeme) → IsUtf8 (drop at source) → scan (chars (drop at source)) ≡ Some lexeme
      → Says source at (length (text_of lexeme)) (said_by at lexeme (drop (length (characters_of lexeme)) (chars (drop at source))))
  step_says at lexeme utf8 scanned =
      let read = scan_read (chars (drop at source)) lexeme scanned in
      let cut = cut_characters (characters_of lexeme) read.rest (drop at source) utf8 read.joined in
      let rest_is = drop-drop (length (text_of lexeme)) at source in
      let after_is : drop (length (characters_of lexeme)) (chars (drop at source)) ≡ chars (drop (at + length (text_of lexeme)) source) =
      ap (λ l. drop (length (characters_of lexeme)) l) read.joined
      ∙ drop_at (characters_of lexeme) read.rest (length (characters_of lexeme)) refl ∙ sym cut.after_chars
      ∙ ap chars rest_is in
      record {
        lexeme = lexeme;
        longest = scanned_longest (drop at source) lexeme utf8 scanned;
        long = refl;
        meaning = ap (said_by at lexeme) (sym after_is);
      }

  -- a gap between two places
  gap_reaches : (from to : ℕ) → IsUtf8 (drop from source) → IsGapBetween source from to
      → (gap : List ℕ) × IsGap gap × (chars (drop from source) ≡ gap ++ chars (drop to source)) × IsUtf8 (drop to source)
  gap_reaches from to utf8 between =
      let joined = front_joins (to - from) (encode_utf8_all between.1.0) (drop from source) between.1.1 in
      let rest_is : drop (to - from) (drop from source) ≡ drop to source = drop-drop (to - from) from source
      ∙ ap (λ n. drop n source) (omega arith) in
      let after = after_characters between.1.0 (drop from source) (drop (to - from) (drop from source)) utf8 joined in
      (between.1.0, between.1.2, after.1 ∙ ap (λ l. between.1.0 ++ chars l) rest_is, subst IsUtf8 rest_is after.0)

  -- how many bytes are left tells the place
  pub place_after : List ℕ → ℕ
  place_after cs = length source - length (encode_utf8_all cs)

  place_is : (at : ℕ) → IsUtf8 (drop at source) → 0 < length (chars (drop at source)) → place_after (chars (drop at source)) ≡ at
  unfolding place_after
  place_is at utf8 some =
      let bytes = encodes-chars (drop at source) utf8 in
      let left = go (chars (drop at source)) some in
      omega (arith, ap length bytes, length-drop at source)
    where
      go : (cs : List ℕ) → 0 < length cs → 0 < length (encode_utf8_all cs)
      go [] some = absurd (omega arith)
      go (c ∷ cs) some = some_bytes c cs

  -- the one step from a place
  pub next : ℕ → Step
  next from = let left = skip false (chars (drop from source)) in step (place_after left) left

  reached : (from at : ℕ) → IsUtf8 (drop from source) → IsGapBetween source from at → begins_gap (chars (drop at source)) ≡ false
      → 0 < length (chars (drop at source))
      → (next from ≡ step at (chars (drop at source))) × IsUtf8 (drop at source)
  unfolding next
  reached from at utf8 between stops some =
      let gap = gap_reaches from at utf8 between in
      let left : skip false (chars (drop from source)) ≡ chars (drop at source) = ap (λ l. skip false l) gap.2
      ∙ skip_found gap.0 (chars (drop at source)) gap.1 stops in
      (rw (left, place_is at gap.3 some) refl, gap.3)

  says_some : (at len : ℕ) (result : Result TokenKind LexErr) → IsUtf8 (drop at source) → Says source at len result
      → 0 < length (chars (drop at source))
  unfolding scan
  says_some at len result utf8 says = go (chars (drop at source)) (longest_scanned (drop at source) says.lexeme utf8 says.longest)
    where
      go : (cs : List ℕ) → scan cs ≡ Some says.lexeme → 0 < length cs
      go [] e = absurd cc
      go (c ∷ cs) e = omega arith

  -- a token that may come next does
  pub token_next_is : (from : ℕ) (token : Token) → IsUtf8 (drop from source) → IsGapBetween source from token.at → IsTokenAt source token
      → (next from ≡ made token) × IsUtf8 (drop (token.at + token.len) source)
  token_next_is from token utf8 between is =
      let gap = gap_reaches from token.at utf8 between in
      let says = says_step token.at token.len (Ok token.kind) gap.3 is in
      let there = reached from token.at utf8 between says.2 (says_some token.at token.len (Ok token.kind) gap.3 is) in
      (there.0 ∙ says.0, says.1)

  -- a refusal that may come next does
  pub refusal_next_is : (from at : ℕ) (e : LexErr) → IsUtf8 (drop from source) → IsGapBetween source from at → IsRefusalAt source at e
      → next from ≡ refusal e
  refusal_next_is from at e utf8 between (unmade len f is) =
      let gap = gap_reaches from at utf8 between in
      let says = says_step at len (Err f) gap.3 is in
      (reached from at utf8 between says.2 (says_some at len (Err f) gap.3 is)).0 ∙ says.0
  refusal_next_is from at e utf8 between (unknown within stops none) =
      let gap = gap_reaches from at utf8 between in
      let some = some_left (drop at source) gap.3 (omega (arith, length-drop at source)) in
      (reached from at utf8 between stops some).0 ∙ step_none at (chars (drop at source)) some (none_found (drop at source) gap.3 none)

  -- the end comes next where only blanks and comments are left
  pub end_next_is : (from : ℕ) → IsUtf8 (drop from source) → IsGapToEnd source from → next from ≡ at_end
  unfolding next
  end_next_is from utf8 (gap, joined, last) =
      let after = after_characters gap (drop from source) [] utf8 (joined ∙ sym (append-nil (encode_utf8_all gap))) in
      let gap_is : chars (drop from source) ≡ gap = after.1 ∙ ap (λ l. gap ++ l) chars-nil ∙ append-nil gap in
      let left : skip false (chars (drop from source)) ≡ [] = ap (λ l. skip false l) gap_is ∙ skip_last gap last in
      rw left refl
