-- One turn of the loop over a text: from the place where the last token ended it skips to the next one, and what is read there
-- goes before whatever is read after it. At the end the closing token is left, and a refusal is the refusal of the whole.
use Rattle.std.proofs.Common.{◌≡◌, ℕ, ◌+◌, ◌-◌, ◌<◌, false, List, [], ◌∷◌, ◌++◌, refl, ap, sym, ◌∙◌, subst, append_assoc, length, drop, arith, Ok, Err, Bool, true, cond, nat_le, ◌==◌, ◌||◌, ◌^◌}
use Rattle.std.specs.Str.{IsUtf8, encode_utf8_all, chars}
use Rattle.std.proofs.lemmas.List.{length-append, drop_at}
use Rattle.std.specs.Char.{encode_utf8}
use Rattle.std.proofs.lemmas.Str.{encodes-chars, encodes-append, length-le-encodes, chars_past_char}
use Rattle.anvil_lexer.specs.declared.error.LexErr.{LexErr}
use Rattle.anvil_lexer.specs.declared.error.LexErr.TheVariants.{NotUtf8, BadChar, BadNumber, LongName, NoMemory}
use Rattle.anvil_lexer.specs.declared.token.TokenKind.{TokenKind}
use Rattle.anvil_lexer.specs.declared.token.TokenKind.TheVariants.{Number, Literal, End}
use Rattle.anvil_lexer.specs.declared.class.Base.TheVariants.{Decimal}
use Rattle.anvil_lexer.specs.declared.token.Token.{Token}
use Rattle.anvil_lexer.specs.Lexeme.{Lexeme, identifier, number, literal, mark, characters_of, text_of, IsLexeme}
use Rattle.anvil_lexer.specs.Characters.{letter, continues_identifier, begins_with, value_of}
use Rattle.anvil_lexer.specs.Spelling.{kind_of_word}
use Rattle.anvil_lexer.specs.TokenText.{said_by, IsRefusalAt, unmade, unknown, AreTokensFrom, ended, token_next, FailsFrom, failed, token_before}
use Rattle.anvil_lexer.specs.Scan.{skip, IsEndOf, ReadsNext, FailsNext, none_there, said_refusal, made, refusal, step, FailsOrFull}
use Rattle.anvil_lexer.proofs.Bytes.{some_bytes}
use Rattle.anvil_lexer.proofs.Marks.{mark_some}
use Rattle.anvil_lexer.proofs.Longest.{scan_read}
use Rattle.anvil_lexer.proofs.Reading.{end_long, end_is}
use Rattle.anvil_lexer.proofs.Steps.{step_some, step_none}
use Rattle.anvil_lexer.proofs.Taken.{IsSkipped, gap_taken, end_taken, token_taken, refusal_taken}

-- what is read next is the step there
reads_step : (at : ℕ) (here after : List ℕ) (kind : TokenKind) → IsUtf8 here → ReadsNext at here kind after
    → step at (chars here) ≡ made (record { kind = kind; at = at; len = length here - length after })
reads_step at here after kind utf8 next =
    let joined = next.reads.joined in
    let rest_is : drop (length (characters_of next.lexeme)) (chars here) ≡ chars after =
    ap (λ l. drop (length (characters_of next.lexeme)) l) joined
    ∙ drop_at (characters_of next.lexeme) (chars after) (length (characters_of next.lexeme)) refl in
    let bytes : here ≡ text_of next.lexeme ++ after =
    sym (encodes-chars here utf8) ∙ ap encode_utf8_all joined ∙ encodes-append (characters_of next.lexeme) (chars after)
    ∙ ap (λ l. text_of next.lexeme ++ l) (encodes-chars after next.reads.utf8) in
    let long : length (text_of next.lexeme) ≡ length here - length after = omega
    (arith, ap length bytes, length-append (text_of next.lexeme) after) in
    step_some at (chars here) next.lexeme next.scanned ∙ rw (rest_is, next.reads.says, long) refl

fails_step : (at : ℕ) (here : List ℕ) (e : LexErr) → 0 < length (chars here) → FailsNext at here e → step at (chars here) ≡ refusal e
fails_step at here e some (none_there none) = step_none at (chars here) some none
fails_step at here e some (said_refusal lexeme f scanned fails) =
    let rest_is : drop (length (characters_of lexeme)) (chars here) ≡ fails.rest =
    ap (λ l. drop (length (characters_of lexeme)) l) fails.joined
    ∙ drop_at (characters_of lexeme) fails.rest (length (characters_of lexeme)) refl in
    step_some at (chars here) lexeme scanned ∙ rw (rest_is, fails.says) refl

-- a lexeme has at least one character
pub lexeme_some : (lexeme : Lexeme) → IsLexeme lexeme → 0 < length (characters_of lexeme)
lexeme_some (identifier c others) formed = omega arith
lexeme_some (number digits) formed = formed.0
lexeme_some (literal width base digits) formed = omega (arith, formed.0.0, length-append width (39 ∷ letter base ∷ digits))
lexeme_some (mark m) formed = mark_some m

-- so less is left after it
pub shorter : (at : ℕ) (here after : List ℕ) (kind : TokenKind) → IsUtf8 here → ReadsNext at here kind after → length after < length here
shorter at here after kind utf8 next =
    let read = scan_read (chars here) next.lexeme next.scanned in
    let bytes : here ≡ text_of next.lexeme ++ after =
    sym (encodes-chars here utf8) ∙ ap encode_utf8_all next.reads.joined
    ∙ encodes-append (characters_of next.lexeme) (chars after)
    ∙ ap (λ l. text_of next.lexeme ++ l) (encodes-chars after next.reads.utf8) in
    omega (
      arith,
      ap length bytes,
      length-append (text_of next.lexeme) after,
      length-le-encodes (characters_of next.lexeme),
      lexeme_some next.lexeme read.formed,
    )

-- a first character is some text
pub some_here : (here rest : List ℕ) (c : ℕ) → IsUtf8 here → here ≡ encode_utf8 c ++ rest → (0 < length here) × (0 < length (chars here))
some_here here rest c utf8 e =
    let is = chars_past_char here rest c utf8 e in
    let bytes : here ≡ encode_utf8_all (c ∷ chars rest) = sym (encodes-chars here utf8) ∙ ap encode_utf8_all is in
    (omega (arith, ap length bytes, some_bytes c (chars rest)), rw is (omega arith))

-- the place of an end of the text
abbrev pub place_of : List ℕ → List ℕ → ℕ
place_of text end = length text - length end

module _ (text rest here : List ℕ) (rest_end : IsEndOf text rest) (here_end : IsEndOf rest here) (rest_utf8 : IsUtf8 rest)
    (here_utf8 : IsUtf8 here) (left : chars here ≡ skip false (chars rest)) where
  here_in_text : IsEndOf text here
  here_in_text = let (before, joined) = rest_end in let (gap, is) = here_end in
      (before ++ gap, joined ∙ ap (λ l. before ++ l) is ∙ sym (append_assoc before gap here))

  skipped : IsSkipped text (place_of text rest) (place_of text here)
  skipped =
      let rest_is = end_is text rest rest_end in
      let here_is = end_is text here here_in_text in
      record {
        forward = omega (arith, end_long rest here here_end, end_long text rest rest_end);
        within = omega arith;
        utf8_before = subst IsUtf8 (sym rest_is) rest_utf8;
        utf8_after = subst IsUtf8 (sym here_is) here_utf8;
        left = ap chars here_is ∙ left ∙ ap (λ l. skip false (chars l)) (sym rest_is);
      }

  pub end_turn : length here ≡ 0 → AreTokensFrom text (place_of text rest) (record { kind = End; at = place_of text here; len = 0 } ∷ [])
  end_turn none =
      let at_end : place_of text here ≡ length text = omega arith in
      let closing = ended (place_of text rest) (end_taken text (place_of text rest) (place_of text here) skipped at_end) in
      subst (λ (at : ℕ). AreTokensFrom text (place_of text rest) (record { kind = End; at = at; len = 0 } ∷ [])) (sym at_end) closing

  pub token_turn : (kind : TokenKind) (after : List ℕ) → 0 < length here → ReadsNext (place_of text here) here kind after
      → (tokens : List Token) → AreTokensFrom text (place_of text after) tokens
      → AreTokensFrom text (place_of text rest) (record { kind = kind; at = place_of text here; len = length here - length after } ∷ tokens)
  token_turn kind after some next tokens are =
      let token : Token = record { kind = kind; at = place_of text here; len = length here - length after } in
      let here_is = end_is text here here_in_text in
      let inside : place_of text here < length text = omega (arith, end_long text here here_in_text) in
      let stepped = ap (λ l. step (place_of text here) (chars l)) here_is
      ∙ reads_step (place_of text here) here after kind here_utf8 next in
      let taken = token_taken text (place_of text rest) (place_of text here) skipped token inside stepped in
      let onward : token.at + token.len ≡ place_of text after = omega
      (arith, end_long text here here_in_text, end_long here after next.reads.end) in
      token_next (place_of text rest) token tokens (gap_taken text (place_of text rest) (place_of text here) skipped inside) taken.1
      (subst (λ (n : ℕ). AreTokensFrom text n tokens) (sym onward) are)

  pub refusal_turn : (e : LexErr) → 0 < length here → 0 < length (chars here) → FailsNext (place_of text here) here e
      → FailsFrom text (place_of text rest) e
  refusal_turn e some some_characters next =
      let here_is = end_is text here here_in_text in
      let inside : place_of text here < length text = omega (arith, end_long text here here_in_text) in
      let stepped = ap (λ l. step (place_of text here) (chars l)) here_is ∙ fails_step (place_of text here) here e some_characters next in
      failed (place_of text rest) (place_of text here) e (gap_taken text (place_of text rest) (place_of text here) skipped inside)
      (refusal_taken text (place_of text rest) (place_of text here) skipped e inside stepped)

  pub refusal_before : (kind : TokenKind) (after : List ℕ) → 0 < length here → ReadsNext (place_of text here) here kind after
      → (e : LexErr) → FailsFrom text (place_of text after) e → FailsFrom text (place_of text rest) e
  refusal_before kind after some next e fails =
      let token : Token = record { kind = kind; at = place_of text here; len = length here - length after } in
      let here_is = end_is text here here_in_text in
      let inside : place_of text here < length text = omega (arith, end_long text here here_in_text) in
      let stepped = ap (λ l. step (place_of text here) (chars l)) here_is
      ∙ reads_step (place_of text here) here after kind here_utf8 next in
      let taken = token_taken text (place_of text rest) (place_of text here) skipped token inside stepped in
      let onward : token.at + token.len ≡ place_of text after = omega
      (arith, end_long text here here_in_text, end_long here after next.reads.end) in
      token_before (place_of text rest) token e (gap_taken text (place_of text rest) (place_of text here) skipped inside) taken.1
      (subst (λ (n : ℕ). FailsFrom text n e) (sym onward) fails)

-- an end of an end is an end
pub end_chain : (text middle end : List ℕ) → IsEndOf text middle → IsEndOf middle end → IsEndOf text end
end_chain text middle end (before, joined) (gap, is) =
    (before ++ gap, joined ∙ ap (λ l. before ++ l) is ∙ sym (append_assoc before gap end))

-- no lexeme says that the source isn't UTF-8, so no place of the source does
never_said : (at bad : ℕ) (lexeme : Lexeme) (after : List ℕ) → said_by at lexeme after ≡ Err (NotUtf8 bad) → ⊥
never_said at bad (identifier c others) after e = go (nat_le (length (text_of (identifier c others))) 64) e
  where
    go : (b : Bool) → cond b (Ok (kind_of_word (text_of (identifier c others)))) (Err (LongName at)) ≡ Err (NotUtf8 bad) → ⊥
    go true f = cc
    go false f = cc
never_said at bad (number digits) after e = go
    (begins_with continues_identifier after || (begins_with (λ c. c == 39) after || nat_le (2 ^ 32) (value_of Decimal digits))) e
  where
    go : (b : Bool) → cond b (Err (BadNumber at)) (Ok (Number (value_of Decimal digits))) ≡ Err (NotUtf8 bad) → ⊥
    go true f = cc
    go false f = cc
never_said at bad (literal width base digits) after e = go
    (begins_with continues_identifier after || (nat_le (2 ^ 32) (value_of Decimal width) || nat_le (2 ^ 128) (value_of base digits))) e
  where
    go : (b : Bool) → cond b (Err (BadNumber at)) (Ok (Literal (value_of Decimal width) (value_of base digits))) ≡ Err (NotUtf8 bad) → ⊥
    go true f = cc
    go false f = cc
never_said at bad (mark m) after e = cc

never_at : (text : List ℕ) (at bad : ℕ) (e : LexErr) → IsRefusalAt text at e → e ≡ NotUtf8 bad → ⊥
never_at text at bad e (unmade len f says) is = never_said at bad says.lexeme (chars (drop (at + len) text))
    (says.meaning ∙ ap (λ g. Err g) is)
never_at text at bad e (unknown within stops none) is = cc

never_fails : (text : List ℕ) (from bad : ℕ) (e : LexErr) → FailsFrom text from e → e ≡ NotUtf8 bad → ⊥
never_fails text from bad e (failed f at g gap there) is = never_at text at bad e there is
never_fails text from bad e (token_before f token g gap there rest) is = never_fails text (token.at + token.len) bad e rest is

-- a refusal of the text is one that may be answered
pub full_or_not : (text : List ℕ) (e : LexErr) → FailsFrom text 0 e → FailsOrFull text e
full_or_not text (NotUtf8 at) fails = never_fails text 0 at (NotUtf8 at) fails refl
full_or_not text (BadChar at) fails = fails
full_or_not text (BadNumber at) fails = fails
full_or_not text (LongName at) fails = fails
full_or_not text NoMemory fails = tt

-- one more token at the end of a list stands at the head of what follows
pub pushed : (old new tokens : List Token) (token : Token) → new ≡ old ++ token ∷ [] → new ++ tokens ≡ old ++ (token ∷ tokens)
pushed old new tokens token e = ap (λ l. l ++ tokens) e ∙ append_assoc old (token ∷ []) tokens
