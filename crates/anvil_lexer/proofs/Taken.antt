-- What the reader takes is what the definitions allow: what it skips is a gap, what it makes is a token at its place, and
-- where it makes none there is a refusal.
use Rattle.std.proofs.Common.{◌≡◌, ℕ, ◌-◌, ◌<◌, ◌≤◌, false, List, [], ◌∷◌, ◌++◌, refl, ap, sym, ◌∙◌, subst, length, take, drop, arith, Option, Some, None, Result, Ok, Err}
use Rattle.std.specs.Str.{IsUtf8, encode_utf8_all, chars}
use Rattle.std.proofs.lemmas.Str.{encodes-chars, chars-nil, encodes-append}
use Rattle.std.proofs.lemmas.List.{length-append, length-drop, append-nil, drop_all}
use Rattle.anvil_lexer.specs.declared.error.LexErr.{LexErr}
use Rattle.anvil_lexer.specs.declared.error.LexErr.TheVariants.{BadChar}
use Rattle.anvil_lexer.specs.declared.token.TokenKind.{TokenKind}
use Rattle.anvil_lexer.specs.declared.token.Token.{Token}
use Rattle.anvil_lexer.specs.Lexeme.{Lexeme, characters_of, text_of}
use Rattle.anvil_lexer.specs.Gap.{closed, begins_gap}
use Rattle.anvil_lexer.specs.TokenText.{said_by, IsTokenAt, IsRefusalAt, unmade, unknown, IsGapBetween, IsGapToEnd}
use Rattle.anvil_lexer.specs.Scan.{scan, skip, made, refusal, said, stepped, step}
use Rattle.anvil_lexer.proofs.Gaps.{Skips, whole, to_end, skip_read, skip_stops}
use Rattle.anvil_lexer.proofs.Bytes.{cut_characters}
use Rattle.anvil_lexer.proofs.Places.{none_stands}
use Rattle.anvil_lexer.proofs.Steps.{step_says}

-- the reader has skipped from one place to another
pub record IsSkipped (source : List ℕ) (from to : ℕ) : Type 0 where
  pub forward : from ≤ to
  pub within : to ≤ length source
  pub utf8_before : IsUtf8 (drop from source)
  pub utf8_after : IsUtf8 (drop to source)
  pub left : chars (drop to source) ≡ skip false (chars (drop from source))

module _ (source : List ℕ) (from to : ℕ) (skipped : IsSkipped source from to) where
  pub gap_taken : to < length source → IsGapBetween source from to
  gap_taken more = go (skip_read (chars (drop from source)))
    where
      go : Skips (chars (drop from source)) (skip false (chars (drop from source))) → IsGapBetween source from to
      go (whole gap joined is) =
          let cut = cut_characters gap (skip false (chars (drop from source))) (drop from source) skipped.utf8_before joined in
          let bytes : drop from source ≡ encode_utf8_all gap ++ drop to source =
          sym (encodes-chars (drop from source) skipped.utf8_before) ∙ ap encode_utf8_all (joined ∙ ap (λ l. gap ++ l) (sym skipped.left))
          ∙ encodes-append gap (chars (drop to source))
          ∙ ap (λ l. encode_utf8_all gap ++ l) (encodes-chars (drop to source) skipped.utf8_after) in
          let long : to - from ≡ length (encode_utf8_all gap) =
          omega (
            arith,
            ap length bytes,
            length-append (encode_utf8_all gap) (drop to source),
            length-drop from source,
            length-drop to source,
            skipped.forward,
            skipped.within,
          ) in
          (skipped.forward, (gap, ap (λ n. take n (drop from source)) long ∙ cut.front_bytes, is))
      go (to_end none last) =
          let empty : chars (drop to source) ≡ [] = skipped.left ∙ none in
          let no_bytes : [] ≡ drop to source = sym (ap encode_utf8_all empty) ∙ encodes-chars (drop to source) skipped.utf8_after in
          absurd (omega (arith, ap length no_bytes, length-drop to source))

  pub end_taken : to ≡ length source → IsGapToEnd source from
  end_taken ended = go (skip_read (chars (drop from source)))
    where
      go : Skips (chars (drop from source)) (skip false (chars (drop from source))) → IsGapToEnd source from
      go (whole gap joined is) =
          let empty : skip false (chars (drop from source)) ≡ [] = sym skipped.left ∙ ap chars (drop_all to source (omega arith))
          ∙ chars-nil in
          let gap_is : chars (drop from source) ≡ gap = joined ∙ ap (λ l. gap ++ l) empty ∙ append-nil gap in
          (gap, sym (encodes-chars (drop from source) skipped.utf8_before) ∙ ap encode_utf8_all gap_is, closed gap is)
      go (to_end none last) = (chars (drop from source), sym (encodes-chars (drop from source) skipped.utf8_before), last)

  said_made : (at len : ℕ) (token : Token) (r : Result TokenKind LexErr) → said at len r ≡ made token
      → (token.at ≡ at) × (r ≡ Ok token.kind) × (token.len ≡ len)
  said_made at len token (Ok kind) e =
      let is : record { kind = kind; at = at; len = len } ≡ token = cc in
      (ap (λ (t : Token). t.at) (sym is), ap (λ (t : Token). Ok t.kind) is, ap (λ (t : Token). t.len) (sym is))
  said_made at len token (Err f) e = absurd cc

  said_refusal : (at len : ℕ) (f : LexErr) (r : Result TokenKind LexErr) → said at len r ≡ refusal f → r ≡ Err f
  said_refusal at len f (Ok kind) e = absurd cc
  said_refusal at len f (Err g) e = let same : g ≡ f = cc in ap (λ h. Err h) same

  step_is : (cs : List ℕ) → 0 < length cs → step to cs ≡ stepped to cs (scan cs)
  step_is [] some = absurd (omega arith)
  step_is (c ∷ cs) some = refl

  chars_some : to < length source → 0 < length (chars (drop to source))
  chars_some more = go (chars (drop to source)) refl
    where
      go : (cs : List ℕ) → chars (drop to source) ≡ cs → 0 < length cs
      go [] empty =
          let no_bytes : [] ≡ drop to source = sym (ap encode_utf8_all empty) ∙ encodes-chars (drop to source) skipped.utf8_after in
          absurd (omega (arith, ap length no_bytes, length-drop to source))
      go (c ∷ cs) is = omega arith

  pub token_taken : (token : Token) → to < length source → step to (chars (drop to source)) ≡ made token
      → (token.at ≡ to) × IsTokenAt source token
  token_taken token more is = go (scan (chars (drop to source))) refl (sym (step_is (chars (drop to source)) (chars_some more)) ∙ is)
    where
      go : (found : Option Lexeme) → scan (chars (drop to source)) ≡ found
          → stepped to (chars (drop to source)) found ≡ made token → (token.at ≡ to) × IsTokenAt source token
      go None none e = absurd cc
      go (Some lexeme) scanned e =
          let says = step_says source to lexeme skipped.utf8_after scanned in
          let parts = said_made to (length (text_of lexeme)) token
          (said_by to lexeme (drop (length (characters_of lexeme)) (chars (drop to source)))) e in
          (parts.0, rw (parts.0, parts.2, sym parts.1) says)

  pub refusal_taken : (f : LexErr) → to < length source → step to (chars (drop to source)) ≡ refusal f → IsRefusalAt source to f
  refusal_taken f more is = go (scan (chars (drop to source))) refl (sym (step_is (chars (drop to source)) (chars_some more)) ∙ is)
    where
      go : (found : Option Lexeme) → scan (chars (drop to source)) ≡ found → stepped to (chars (drop to source)) found ≡ refusal f
          → IsRefusalAt source to f
      go None none e =
          let is_char : BadChar to ≡ f = cc in
          subst (IsRefusalAt source to) is_char
          (unknown more (ap begins_gap skipped.left ∙ skip_stops (chars (drop from source)))
          (none_stands (drop to source) skipped.utf8_after none))
      go (Some lexeme) scanned e =
          let says = step_says source to lexeme skipped.utf8_after scanned in
          unmade (length (text_of lexeme)) f (rw (sym (said_refusal to (length (text_of lexeme)) f
          (said_by to lexeme (drop (length (characters_of lexeme)) (chars (drop to source)))) e)) says)
