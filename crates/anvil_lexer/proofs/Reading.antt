-- One step of a reader over characters: the text is the character and the rest, so its characters are that character and
-- those of the rest, and the rest is an end of what the text was an end of.
use Rattle.std.proofs.Common.{◌≡◌, ℕ, ◌-◌, ◌≤◌, Bool, true, false, List, [], ◌∷◌, ◌++◌, refl, ap, sym, ◌∙◌, append_assoc, length, take, drop, arith, subst, cond, not, ◌==◌, ◌&&◌, Option, Some, None, take-append-drop}
use Rattle.std.specs.Prelude.{MatchOption}
use Rattle.std.specs.Str.{IsUtf8, IsCharBoundary, chars}
use Rattle.std.specs.Char.{encode_utf8}
use Rattle.std.proofs.lemmas.List.{length-append, append_cancel_right, drop_at}
use Rattle.std.proofs.lemmas.Str.{chars_past_char, IsUtf8-past_char, chars-append, chars-nil, IsCharBoundary-at_seam, IsUtf8-take}
use Rattle.anvil_lexer.specs.Characters.{begins_with}
use Rattle.anvil_lexer.specs.Gap.{is_blank}
use Rattle.anvil_lexer.specs.Scan.{front, after_front, IsEndOf, skip}
use Rattle.anvil_lexer.proofs.Fronts.{front_joined, after_more, after_none}

-- the rest of an end is an end
pub end_shorter : (text here first rest : List ℕ) → IsEndOf text here → here ≡ first ++ rest → IsEndOf text rest
end_shorter text here first rest (before, joined) e =
    (before ++ first, joined ∙ ap (λ l. before ++ l) e ∙ sym (append_assoc before first rest))

pub end_long : (text here : List ℕ) → IsEndOf text here → length here ≤ length text
end_long text here (before, joined) = omega (arith, ap length joined, length-append before here)

pub end_is : (text here : List ℕ) → IsEndOf text here → drop (length text - length here) text ≡ here
end_is text here (before, joined) =
    let long : length before ≡ length text - length here = omega (arith, ap length joined, length-append before here) in
    ap (λ l. drop (length text - length here) l) joined ∙ drop_at before here (length text - length here) long

pub end_boundary : (text here : List ℕ) → IsUtf8 here → IsEndOf text here → IsCharBoundary text (length text - length here)
end_boundary text here utf8 (before, joined) =
    let long : length before ≡ length text - length here = omega (arith, ap length joined, length-append before here) in
    subst (IsCharBoundary text) long (IsCharBoundary-at_seam text before here joined utf8)

-- past a character that passes the same end is left, and a character that doesn't pass is left
pub front_goes : (passes : ℕ → Bool) (here rest : List ℕ) (c : ℕ) → IsUtf8 here → here ≡ encode_utf8 c ++ rest → passes c ≡ true
    → after_front passes (chars here) ≡ after_front passes (chars rest)
front_goes passes here rest c utf8 e passed = ap (after_front passes) (chars_past_char here rest c utf8 e)
    ∙ after_more passes c (chars rest) passed

pub front_ends : (passes : ℕ → Bool) (here rest : List ℕ) (c : ℕ) → IsUtf8 here → here ≡ encode_utf8 c ++ rest → passes c ≡ false
    → after_front passes (chars here) ≡ chars here
front_ends passes here rest c utf8 e stopped =
    let is = chars_past_char here rest c utf8 e in
    ap (after_front passes) is ∙ after_none passes c (chars rest) stopped ∙ sym is

pub no_characters : (here : List ℕ) → length here ≡ 0 → chars here ≡ []
no_characters [] e = chars-nil
no_characters (b ∷ bs) e = absurd (omega arith)

-- what stands before the end is the front
pub front_is : (passes : ℕ → Bool) (text before end : List ℕ) → IsUtf8 before → text ≡ before ++ end
    → chars end ≡ after_front passes (chars text) → chars before ≡ front passes (chars text)
front_is passes text before end utf8 joined left =
    let both : chars before ++ chars end ≡ front passes (chars text) ++ chars end =
    sym (chars-append before end utf8) ∙ ap chars (sym joined) ∙ sym (front_joined passes (chars text))
    ∙ ap (λ l. front passes (chars text) ++ l) (sym left) in
    append_cancel_right (chars before) (front passes (chars text)) (chars end) both

-- the steps of what skips blanks and comments
pub skip_inside_step : (here rest : List ℕ) (c : ℕ) (inside : Bool) → IsUtf8 here → here ≡ encode_utf8 c ++ rest → inside ≡ true
    → skip inside (chars here) ≡ skip (not (c == 10)) (chars rest)
skip_inside_step here rest c inside utf8 e is = rw (is, chars_past_char here rest c utf8 e) (go (c == 10))
  where
    go : (b : Bool) → cond b (skip false (chars rest)) (skip true (chars rest)) ≡ skip (not b) (chars rest)
    go true = refl
    go false = refl

pub skip_blank_step : (here rest : List ℕ) (c : ℕ) (inside : Bool) → IsUtf8 here → here ≡ encode_utf8 c ++ rest → inside ≡ false
    → is_blank c ≡ true → skip inside (chars here) ≡ skip false (chars rest)
skip_blank_step here rest c inside utf8 e is blank = rw (is, chars_past_char here rest c utf8 e, blank) refl

pub skip_slashes_step : (here rest : List ℕ) (c : ℕ) (inside : Bool) → IsUtf8 here → here ≡ encode_utf8 c ++ rest → inside ≡ false
    → is_blank c ≡ false → (c == 47) ≡ true
    → begins_with (λ d. d == 47) (chars rest) ≡ true → skip inside (chars here) ≡ skip true (chars rest)
skip_slashes_step here rest c inside utf8 e is no_blank slash second = rw
    (is, chars_past_char here rest c utf8 e, no_blank, slash, second) refl

pub skip_ends : (here rest : List ℕ) (c : ℕ) (inside : Bool) → IsUtf8 here → here ≡ encode_utf8 c ++ rest → inside ≡ false
    → is_blank c ≡ false
    → (c == 47 && begins_with (λ d. d == 47) (chars rest)) ≡ false → skip inside (chars here) ≡ chars here
skip_ends here rest c inside utf8 e is no_blank no_comment = rw (is, chars_past_char here rest c utf8 e, no_blank, no_comment) refl

pub skip_nothing : (here : List ℕ) (inside : Bool) → length here ≡ 0 → skip inside (chars here) ≡ chars here
skip_nothing here inside none = rw (no_characters here none) refl

-- one call of `next` drops one character, if there is one
pub record IsNext (here rest : List ℕ) : Type 0 where
  pub left : chars rest ≡ drop 1 (chars here)
  pub end : IsEndOf here rest
  pub utf8 : IsUtf8 rest

pub next_drops : {Same : Type 0} (found : Option ℕ) (here rest : List ℕ) → IsUtf8 here → (Same → rest ≡ here)
    → MatchOption found ((length here ≡ 0) × Same) (λ c. here ≡ encode_utf8 c ++ rest) → IsNext here rest
next_drops None here rest utf8 same (none, kept) =
    let is = same kept in
    let empty = no_characters here none in
    record { left = ap chars is ∙ empty ∙ sym (ap (λ (l : List ℕ). drop 1 l) empty); end = ([], sym is); utf8 = subst IsUtf8 (sym is) utf8 }
next_drops (Some c) here rest utf8 same read =
    record {
      left = sym (ap (λ (l : List ℕ). drop 1 l) (chars_past_char here rest c utf8 read));
      end = (encode_utf8 c, read);
      utf8 = IsUtf8-past_char here rest c utf8 read;
    }

-- what stands before an end that is left after some characters are these characters
pub taken_is : (count : ℕ) (text before end : List ℕ) → IsUtf8 before → text ≡ before ++ end → chars end ≡ drop count (chars text)
    → chars before ≡ take count (chars text)
taken_is count text before end utf8 joined left =
    let both : chars before ++ chars end ≡ take count (chars text) ++ chars end =
    sym (chars-append before end utf8) ∙ ap chars (sym joined) ∙ sym (take-append-drop count (chars text))
    ∙ ap (λ l. take count (chars text) ++ l) (sym left) in
    append_cancel_right (chars before) (take count (chars text)) (chars end) both

-- the cut of a text before an end
pub before_utf8 : (text end : List ℕ) → IsUtf8 text → IsUtf8 end → IsEndOf text end → IsUtf8 (take (length text - length end) text)
before_utf8 text end utf8 end_utf8 is = IsUtf8-take text (length text - length end) utf8 (end_boundary text end end_utf8 is)

pub end_cut : (text end : List ℕ) → IsEndOf text end → text ≡ take (length text - length end) text ++ end
end_cut text end is = sym (take-append-drop (length text - length end) text)
    ∙ ap (λ l. take (length text - length end) text ++ l) (end_is text end is)
