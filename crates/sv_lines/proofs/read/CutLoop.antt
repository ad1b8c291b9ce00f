-- The place of the first `__`, looked for from the front: what stands before the place where the looking is holds none.
use Rattle.std.proofs.Common.{◌≡◌, ℕ, zero, suc, ◌+◌, ◌<◌, ◌≤◌, Bool, true, false, cond, ◌&&◌, List, [], ◌∷◌, ◌++◌, take, drop, get_or, length, Option, Some, None, refl, ap, sym, ◌∙◌, arith, append_assoc, append-nil}
use Rattle.std.proofs.lemmas.List.{take_more}
use Rattle.std.specs.Prelude.{◌==◌}
use Rattle.anvil_lexer.specs.GoodName.{begins_with_underscore}
use Rattle.sv_lines.specs.Pieces.{with_first, cut}

-- what is cut behind a front
abbrev pub prepend : List ℕ → Option (List ℕ × List ℕ) → Option (List ℕ × List ℕ)
prepend front None = None
prepend front (Some parts) = Some (front ++ parts.0, parts.1)

pub record Looked (text : List ℕ) (count : ℕ) : Type 0 where
  pub within : count ≤ length text
  pub same : cut text ≡ prepend (take count text) (cut (drop count text))

prepend_none : (found : Option (List ℕ × List ℕ)) → found ≡ prepend [] found
prepend_none None = refl
prepend_none (Some parts) = refl

pub look_first : (text : List ℕ) → Looked text 0
look_first text = record { within = omega arith; same = prepend_none (cut text) }

prepend_more : (front : List ℕ) (byte : ℕ) (found : Option (List ℕ × List ℕ)) → prepend front (with_first byte found) ≡ prepend (front ++ (byte ∷ [])) found
prepend_more front byte None = refl
prepend_more front byte (Some parts) = ap (λ l. Some (l, parts.1)) (sym (append_assoc front (byte ∷ []) parts.0))

past_by : (byte : ℕ) (rest : List ℕ) → ((byte == 95) && begins_with_underscore rest) ≡ false → cut (byte ∷ rest) ≡ with_first byte (cut rest)
past_by byte rest e = rw e refl

past : (text : List ℕ) (count : ℕ) → count + 1 < length text → (get_or text count 0 == 95) && (get_or text (count + 1) 0 == 95) ≡ false
    → cut (drop count text) ≡ with_first (get_or text count 0) (cut (drop (count + 1) text))
past [] count within e = absurd (omega arith)
past (byte ∷ []) zero within e = absurd (omega arith)
past (byte ∷ next ∷ rest) zero within e = past_by byte (next ∷ rest) e
past (byte ∷ rest) (suc count) within e =
    let more : suc count + 1 ≡ suc (count + 1) = omega arith in
    rw more (past rest count (omega arith) (rw more at e))

here : (text : List ℕ) (count : ℕ) → count + 1 < length text → get_or text count 0 ≡ 95 → get_or text (count + 1) 0 ≡ 95
    → cut (drop count text) ≡ Some ([], drop (count + 2) text)
here [] count within first second = absurd (omega arith)
here (byte ∷ []) zero within first second = absurd (omega arith)
here (byte ∷ next ∷ rest) zero within first second = rw (first, second) refl
here (byte ∷ rest) (suc count) within first second =
    let more : suc count + 1 ≡ suc (count + 1) = omega arith in
    let two : suc count + 2 ≡ suc (count + 2) = omega arith in
    rw two (here rest count (omega arith) first (rw more at second))

pub look_on : (text : List ℕ) (count : ℕ) → Looked text count → count + 1 < length text → (get_or text count 0 == 95) && (get_or text (count + 1) 0 == 95) ≡ false
    → Looked text (count + 1)
look_on text count looked within e =
    record {
      within = omega arith;
      same =
          looked.same ∙ ap (prepend (take count text)) (past text count within e) ∙ prepend_more (take count text) (get_or text count 0) (cut (drop (count + 1) text))
          ∙ ap (λ l. prepend l (cut (drop (count + 1) text))) (sym (take_more text count 0 (omega arith)));
    }

pub look_found : (text : List ℕ) (count : ℕ) → Looked text count → count + 1 < length text → get_or text count 0 ≡ 95 → get_or text (count + 1) 0 ≡ 95
    → cut text ≡ Some (take count text, drop (count + 2) text)
look_found text count looked within first second =
    looked.same ∙ ap (prepend (take count text)) (here text count within first second) ∙ ap (λ l. Some (l, drop (count + 2) text)) (append-nil (take count text))

short : (text : List ℕ) (count : ℕ) → length text ≤ count + 1 → cut (drop count text) ≡ None
short [] zero within = refl
short [] (suc count) within = refl
short (byte ∷ []) zero within = one (byte == 95)
  where
    one : (is : Bool) → cond (is && false) (Some ([], [])) (with_first byte None) ≡ None
    one true = refl
    one false = refl
short (byte ∷ next ∷ rest) zero within = absurd (omega arith)
short (byte ∷ rest) (suc count) within = short rest count (omega arith)

pub look_ended : (text : List ℕ) (count : ℕ) → Looked text count → length text ≤ count + 1 → cut text ≡ None
look_ended text count looked within = looked.same ∙ ap (prepend (take count text)) (short text count within)
