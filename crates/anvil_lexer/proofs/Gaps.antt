-- The reader skips exactly what stands between tokens. What it skips is blanks and whole comments, or reaches the end; and
-- where blanks and whole comments stand before a text that begins with neither, it skips them and nothing more.
-- Inside a comment it goes on to the first line feed.
use Rattle.std.proofs.Common.{◌≡◌, ℕ, true, false, List, [], ◌∷◌, ◌++◌, refl, ap, sym, ◌∙◌, inl, inr, subst, append_assoc, ◌==◌, ◌&&◌}
use Rattle.std.proofs.lemmas.List.{append-nil}
use Rattle.std.proofs.lemmas.Bool.{cases_Bool, eqb-true, eqb-false, ne_eqb, or_from, or_parts, and_parts}
use Rattle.anvil_lexer.specs.Characters.{begins_with}
use Rattle.anvil_lexer.specs.Gap.{is_blank, IsOneLine, IsGap, nothing, blank, comment, IsLastGap, closed, open_comment, begins_gap}
use Rattle.anvil_lexer.specs.Scan.{skip}

-- what the reader skips, outside a comment
pub data Skips (cs rest : List ℕ) : Type 0 where
  whole : (gap : List ℕ) → cs ≡ gap ++ rest → IsGap gap → Skips cs rest
  to_end : rest ≡ [] → IsLastGap cs → Skips cs rest

-- and inside one
data SkipsInside (cs rest : List ℕ) : Type 0 where
  whole_inside : (line gap : List ℕ) → cs ≡ line ++ (10 ∷ (gap ++ rest)) → IsOneLine line → IsGap gap → SkipsInside cs rest
  line_to_end : rest ≡ [] → IsOneLine cs → SkipsInside cs rest
  lines_to_end : rest ≡ [] → (line last : List ℕ) → cs ≡ line ++ (10 ∷ last) → IsOneLine line → IsLastGap last → SkipsInside cs rest

blank_before : (c : ℕ) (cs : List ℕ) → is_blank c ≡ true → IsLastGap cs → IsLastGap (c ∷ cs)
blank_before c cs is (closed gap g) = closed (c ∷ gap) (blank c gap is g)
blank_before c cs is (open_comment gap inside g o) = open_comment (c ∷ gap) inside (blank c gap is g) o

comment_before : (line last : List ℕ) → IsOneLine line → IsLastGap last → IsLastGap (47 ∷ 47 ∷ (line ++ (10 ∷ last)))
comment_before line last one (closed gap g) = closed _ (comment line gap one g)
comment_before line last one (open_comment gap inside g o) =
    subst IsLastGap (ap (λ l. 47 ∷ 47 ∷ l) (append_assoc line (10 ∷ gap) (47 ∷ 47 ∷ inside)))
    (open_comment (47 ∷ 47 ∷ (line ++ (10 ∷ gap))) inside (comment line gap one g) o)

skips_blank : (c : ℕ) (cs rest : List ℕ) → is_blank c ≡ true → Skips cs rest → Skips (c ∷ cs) rest
skips_blank c cs rest is (whole gap joined g) = whole (c ∷ gap) (ap (λ l. c ∷ l) joined) (blank c gap is g)
skips_blank c cs rest is (to_end none last) = to_end none (blank_before c cs is last)

skips_line_feed : (cs rest : List ℕ) → Skips cs rest → SkipsInside (10 ∷ cs) rest
skips_line_feed cs rest (whole gap joined g) = whole_inside [] gap (ap (λ l. 10 ∷ l) joined) tt g
skips_line_feed cs rest (to_end none last) = lines_to_end none [] cs refl tt last

skips_character : (c : ℕ) (cs rest : List ℕ) → (c ≡ 10 → ⊥) → SkipsInside cs rest → SkipsInside (c ∷ cs) rest
skips_character c cs rest other (whole_inside line gap joined one g) = whole_inside (c ∷ line) gap (ap (λ l. c ∷ l) joined) (other, one) g
skips_character c cs rest other (line_to_end none one) = line_to_end none (other, one)
skips_character c cs rest other (lines_to_end none line last joined one g) = lines_to_end none (c ∷ line) last
    (ap (λ l. c ∷ l) joined) (other, one) g

-- the inside begins with the second slash, which is no part of what stands in the comment
skips_comment : (cs rest : List ℕ) → SkipsInside (47 ∷ cs) rest → Skips (47 ∷ 47 ∷ cs) rest
skips_comment cs rest (whole_inside [] gap joined one g) = absurd cc
skips_comment cs rest (whole_inside (c ∷ line) gap joined one g) =
    let cs_is : cs ≡ line ++ (10 ∷ (gap ++ rest)) = cc in
    whole (47 ∷ 47 ∷ (line ++ (10 ∷ gap))) (ap (λ l. 47 ∷ 47 ∷ l) (cs_is ∙ sym (append_assoc line (10 ∷ gap) rest)))
    (comment line gap one.1 g)
skips_comment cs rest (line_to_end none one) = to_end none (open_comment [] cs nothing one.1)
skips_comment cs rest (lines_to_end none [] last joined one g) = absurd cc
skips_comment cs rest (lines_to_end none (c ∷ line) last joined one g) =
    let cs_is : cs ≡ line ++ (10 ∷ last) = cc in
    to_end none (subst IsLastGap (ap (λ l. 47 ∷ 47 ∷ l) (sym cs_is)) (comment_before line last one.1 g))

begins_slash : (cs : List ℕ) → begins_with (λ d. d == 47) cs ≡ true → (more : List ℕ) × (cs ≡ 47 ∷ more)
begins_slash [] e = absurd cc
begins_slash (c ∷ cs) e = (cs, ap (λ d. d ∷ cs) (eqb-true c 47 e))

opens_comment : (c : ℕ) (cs rest : List ℕ) → (c == 47 && begins_with (λ d. d == 47) cs) ≡ true → SkipsInside cs rest → Skips (c ∷ cs) rest
opens_comment c cs rest slashes inside =
    let both = and_parts (c == 47) (begins_with (λ d. d == 47) cs) slashes in
    let second = begins_slash cs both.1 in
    let inside_it : SkipsInside (47 ∷ second.0) rest = subst (λ (l : List ℕ). SkipsInside l rest) second.1 inside in
    let first_is : c ∷ cs ≡ 47 ∷ 47 ∷ second.0 = ap (λ d. d ∷ cs) (eqb-true c 47 both.0) ∙ ap (λ l. 47 ∷ l) second.1 in
    subst (λ (l : List ℕ). Skips l rest) (sym first_is) (skips_comment second.0 rest inside_it)

mutual
  pub skip_read : (cs : List ℕ) → Skips cs (skip false cs)
  skip_read [] = whole [] refl nothing
  skip_read (c ∷ cs) =
      let after_blank = skip_read cs in
      let after_slash = skip_inside cs in
      elim (cases_Bool (is_blank c)) [
        | inl is ↦ rw is (skips_blank c cs (skip false cs) is after_blank)
        | inr no_blank ↦
            elim (cases_Bool (c == 47 && begins_with (λ d. d == 47) cs)) [
              | inl slashes ↦ rw (no_blank, slashes) (opens_comment c cs (skip true cs) slashes after_slash)
              | inr no_comment ↦ rw (no_blank, no_comment) (whole [] refl nothing)
            ]
      ]

  skip_inside : (cs : List ℕ) → SkipsInside cs (skip true cs)
  skip_inside [] = line_to_end refl tt
  skip_inside (c ∷ cs) =
      let after_line = skip_read cs in
      let after_character = skip_inside cs in
      elim (cases_Bool (c == 10)) [
        | inl feed ↦ rw feed (rw (eqb-true c 10 feed) (skips_line_feed cs (skip false cs) after_line))
        | inr other ↦ rw other (skips_character c cs (skip true cs) (eqb-false c 10 other) after_character)
      ]

-- what is left begins with neither a blank nor a comment
mutual
  pub skip_stops : (cs : List ℕ) → begins_gap (skip false cs) ≡ false
  skip_stops [] = refl
  skip_stops (c ∷ cs) =
      let after_blank = skip_stops cs in
      let after_slash = skip_stops_inside cs in
      elim (cases_Bool (is_blank c)) [
        | inl is ↦ rw is after_blank
        | inr no_blank ↦
            elim (cases_Bool (c == 47 && begins_with (λ d. d == 47) cs)) [
              | inl slashes ↦ rw (no_blank, slashes) after_slash
              | inr no_comment ↦ rw (no_blank, no_comment)
                  (or_from (is_blank c) (c == 47 && begins_with (λ d. d == 47) cs) no_blank no_comment)
            ]
      ]

  skip_stops_inside : (cs : List ℕ) → begins_gap (skip true cs) ≡ false
  skip_stops_inside [] = refl
  skip_stops_inside (c ∷ cs) =
      let after_line = skip_stops cs in
      let after_character = skip_stops_inside cs in
      elim (cases_Bool (c == 10)) [
        | inl feed ↦ rw feed after_line
        | inr other ↦ rw other after_character
      ]

-- a comment is skipped up to its line feed, or to the end
skip_line : (line more : List ℕ) → IsOneLine line → skip true (line ++ (10 ∷ more)) ≡ skip false more
skip_line [] more one = refl
skip_line (c ∷ line) more one = rw (ne_eqb c 10 one.0) (skip_line line more one.1)

skip_last_line : (line : List ℕ) → IsOneLine line → skip true line ≡ []
skip_last_line [] one = refl
skip_last_line (c ∷ line) one = rw (ne_eqb c 10 one.0) (skip_last_line line one.1)

stays : (rest : List ℕ) → begins_gap rest ≡ false → skip false rest ≡ rest
stays [] stops = refl
stays (c ∷ cs) stops =
    let parts = or_parts (is_blank c) (c == 47 && begins_with (λ d. d == 47) cs) stops in
    rw (parts.0, parts.1) refl

-- blanks and whole comments before any text are skipped
gap_skipped : (gap rest : List ℕ) → IsGap gap → skip false (gap ++ rest) ≡ skip false rest
gap_skipped gap rest nothing = refl
gap_skipped gap rest (blank c cs is g) = rw is (gap_skipped cs rest g)
gap_skipped gap rest (comment inside more one g) =
    ap (λ l. skip true l) (append_assoc inside (10 ∷ more) rest) ∙ skip_line inside (more ++ rest) one ∙ gap_skipped more rest g

pub skip_found : (gap rest : List ℕ) → IsGap gap → begins_gap rest ≡ false → skip false (gap ++ rest) ≡ rest
skip_found gap rest g stops = gap_skipped gap rest g ∙ stays rest stops

pub skip_last : (gap : List ℕ) → IsLastGap gap → skip false gap ≡ []
skip_last gap (closed ended g) = ap (λ l. skip false l) (sym (append-nil ended)) ∙ gap_skipped ended [] g
skip_last gap (open_comment before inside g one) = gap_skipped before (47 ∷ 47 ∷ inside) g ∙ skip_last_line inside one
