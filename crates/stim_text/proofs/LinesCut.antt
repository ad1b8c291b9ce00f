-- The first line of a text, cut at the first line feed: the lines of the text are it and those of the rest.
use Rattle.std.proofs.Common.{◌≡◌, ◌-◌, length-drop, ◌⊎◌, inl, inr, append_assoc, ℕ, ◌+◌, ◌<◌, ◌≤◌, Bool, true, false, cond, ◌&&◌, List, [], ◌∷◌, ◌++◌, length, take, drop, zero, suc, refl, ap, sym, subst, ◌∙◌, arith, append-nil}
use Rattle.std.proofs.lemmas.Bool.Decides.{nat_tests}
use Rattle.std.specs.Prelude.{◌==◌, not, bytes_eq}
use Rattle.std.specs.List.{prefix_len}
use Rattle.std.proofs.lemmas.List.{take-append-drop, take_all}
use Rattle.stim_text.proofs.Decided.{number_same, bytes_same, same_bytes}
use Rattle.std.proofs.lemmas.List.Prefix.{front_rest}
use Rattle.stim_text.specs.Lines.{begins_with_feed, ahead, lines_of}
use Rattle.stim_text.specs.Cut.{is_no_feed, Quiet, without_return, IsCut, last_piece, by_feed, by_return_and_feed, CutsLine}

not_feed : (byte : ℕ) → is_no_feed byte ≡ true → (byte == 10) ≡ false
not_feed byte quiet = by_case (byte == 10) refl quiet
  where
    by_case : (b : Bool) → (byte == 10) ≡ b → not b ≡ true → b ≡ false
    by_case true test never = absurd cc
    by_case false test quiet = refl

-- The lines of a text.

and_no : (a b : Bool) → b ≡ false → (a && b) ≡ false
and_no true b off = off
and_no false b off = refl

-- a byte that ends no line
lines_ahead : (byte : ℕ) (rest : List ℕ) → (byte == 10) ≡ false → ((byte == 13) && begins_with_feed rest) ≡ false → lines_of (byte ∷ rest) ≡ ahead byte (lines_of rest)
lines_ahead byte rest no_feed no_return = rw (no_feed, no_return) refl

pub lines_by_feed : (front rest : List ℕ) → Quiet front → lines_of (front ++ 10 ∷ rest) ≡ without_return front ∷ lines_of rest
lines_by_feed [] rest quiet = refl
lines_by_feed (byte ∷ []) rest quiet = rw (not_feed byte quiet.0) (by_case (byte == 13))
  where
    by_case : (b : Bool) → cond (b && true) ([] ∷ lines_of rest) (ahead byte ([] ∷ lines_of rest)) ≡ cond b [] (byte ∷ []) ∷ lines_of rest
    by_case true = refl
    by_case false = refl
lines_by_feed (byte ∷ next ∷ front) rest quiet =
    lines_ahead byte (next ∷ (front ++ 10 ∷ rest)) (not_feed byte quiet.0) (and_no (byte == 13) (next == 10) (not_feed next quiet.1.0)) ∙ ap (ahead byte) (lines_by_feed (next ∷ front) rest quiet.1)

pub lines_of_piece : (byte : ℕ) (rest : List ℕ) → Quiet (byte ∷ rest) → lines_of (byte ∷ rest) ≡ (byte ∷ rest) ∷ []
lines_of_piece byte [] quiet = lines_ahead byte [] (not_feed byte quiet.0) (and_no (byte == 13) false refl)
lines_of_piece byte (next ∷ rest) quiet =
    lines_ahead byte (next ∷ rest) (not_feed byte quiet.0) (and_no (byte == 13) (next == 10) (not_feed next quiet.1.0)) ∙ ap (ahead byte) (lines_of_piece next rest quiet.1)

-- How the text is put together.

-- a line feed behind a quiet front, with the carriage return before it or without
cut_by_feed : (front rest : List ℕ) → IsCut (front ++ 10 ∷ rest) (without_return front) rest
cut_by_feed front rest = elim (returned front) [ inl same ↦ subst (λ line. IsCut (front ++ 10 ∷ rest) line rest) (sym same) by_feed | inr same ↦ with_return same ]
  where
    returned : (front : List ℕ) → (without_return front ≡ front) ⊎ (front ≡ without_return front ++ 13 ∷ [])
    returned [] = inl refl
    returned (byte ∷ []) = by_case (byte == 13) refl
      where
        by_case : (b : Bool) → (byte == 13) ≡ b → (cond b [] (byte ∷ []) ≡ byte ∷ []) ⊎ (byte ∷ [] ≡ cond b [] (byte ∷ []) ++ 13 ∷ [])
        by_case true test = let same : byte ≡ 13 = grind (arith, nat_tests) in inr (ap (λ n. n ∷ []) same)
        by_case false test = inl refl
    returned (byte ∷ next ∷ rest) = elim (returned (next ∷ rest)) [ inl same ↦ inl (ap (λ line. byte ∷ line) same) | inr same ↦ inr (ap (λ line. byte ∷ line) same) ]

    with_return : front ≡ without_return front ++ 13 ∷ [] → IsCut (front ++ 10 ∷ rest) (without_return front) rest
    with_return same =
        let text : front ++ 10 ∷ rest ≡ without_return front ++ 13 ∷ 10 ∷ rest = ap (λ line. line ++ 10 ∷ rest) same ∙ append_assoc (without_return front) (13 ∷ []) (10 ∷ rest) in
        subst (λ t. IsCut t (without_return front) rest) (sym text) by_return_and_feed

-- The first run without a line feed, as the code cuts it.

take_one_more : (byte : ℕ) (count : ℕ) (text : List ℕ) → take (1 + count) (byte ∷ text) ≡ byte ∷ take count text
take_one_more byte count text = let more : 1 + count ≡ suc count = omega arith in rw more refl

drop_one_more : (byte : ℕ) (count : ℕ) (text : List ℕ) → drop (1 + count) (byte ∷ text) ≡ drop count text
drop_one_more byte count text = let more : 1 + count ≡ suc count = omega arith in rw more refl

front_by : (byte : ℕ) (text : List ℕ) (here : Bool) → is_no_feed byte ≡ here → Quiet (take (prefix_len is_no_feed text) text)
    → Quiet (take (cond here (1 + prefix_len is_no_feed text) 0) (byte ∷ text))
front_by byte text true is later = rw (take_one_more byte (prefix_len is_no_feed text) text) (is, later)
front_by byte text false is later = tt

front_is_quiet : (text : List ℕ) → Quiet (take (prefix_len is_no_feed text) text)
front_is_quiet [] = tt
front_is_quiet (byte ∷ text) = front_by byte text (is_no_feed byte) refl (front_is_quiet text)

feed_by : (byte : ℕ) (text : List ℕ) (here : Bool) (first : ℕ) (rest : List ℕ) → is_no_feed byte ≡ here
    → (drop (prefix_len is_no_feed text) text ≡ first ∷ rest → first ≡ 10)
    → drop (cond here (1 + prefix_len is_no_feed text) 0) (byte ∷ text) ≡ first ∷ rest → first ≡ 10
feed_by byte text true first rest is later e = later (sym (drop_one_more byte (prefix_len is_no_feed text) text) ∙ e)
feed_by byte text false first rest is later e = let same : byte ≡ first = cc in sym same ∙ number_same byte 10 (is_feed (byte == 10) refl is)
  where
    is_feed : (there : Bool) → (byte == 10) ≡ there → not there ≡ false → (byte == 10) ≡ true
    is_feed true known none = known
    is_feed false known none = absurd cc

feed_follows : (text : List ℕ) (first : ℕ) (rest : List ℕ) → drop (prefix_len is_no_feed text) text ≡ first ∷ rest → first ≡ 10
feed_follows [] first rest e = absurd cc
feed_follows (byte ∷ text) first rest e = feed_by byte text (is_no_feed byte) first rest refl (feed_follows text first rest) e

line_by : (text front whole : List ℕ) → front ≡ take (prefix_len is_no_feed text) text → whole ≡ drop (prefix_len is_no_feed text) text → 0 < length whole
    → text ≡ front ++ (10 ∷ drop 1 whole)
line_by text front [] is_front is_rest some = absurd (omega (arith, some))
line_by text front (first ∷ rest) is_front is_rest some =
    let ten = feed_follows text first rest (sym is_rest) in
    let whole = take-append-drop (prefix_len is_no_feed text) text in
    rw is_front (rw (← ten) (rw is_rest (sym whole)))

line_joined : (text front whole : List ℕ) (count : ℕ) → count ≡ prefix_len is_no_feed text → front ≡ take count text → whole ≡ drop count text → count < length text
    → text ≡ front ++ (10 ∷ drop 1 whole)
line_joined text front whole count is is_front is_rest some =
    line_by text front whole (rw (← is) is_front) (rw (← is) is_rest) (let long = ap length is_rest in let left = length-drop count text in omega (arith, long, left, some))

line_quiet : (text front : List ℕ) (count : ℕ) → count ≡ prefix_len is_no_feed text → front ≡ take count text → Quiet front
line_quiet text front count is is_front = rw is_front (rw is (front_is_quiet text))

-- the rest is taken to its end
pub piece_found : (text front whole : List ℕ) (count : ℕ) → count ≡ prefix_len is_no_feed text → front ≡ take count text → whole ≡ drop count text → count < length text
    → Quiet front × (text ≡ front ++ (10 ∷ take (length whole - 1) (drop 1 whole)))
piece_found text front whole count is is_front is_rest some =
    let left = length-drop 1 whole in
    let rest : take (length whole - 1) (drop 1 whole) ≡ drop 1 whole = take_all (length whole - 1) (drop 1 whole) (omega (arith, left)) in
    (line_quiet text front count is is_front, rw rest (line_joined text front whole count is is_front is_rest some))

-- no line feed at all
pub all_quiet : (text : List ℕ) (count : ℕ) → count ≡ prefix_len is_no_feed text → count ≡ length text → Quiet text
all_quiet text count is whole =
    let all : take count text ≡ text = take_all count text (omega (arith, whole)) in
    line_quiet text text count is (sym all)

-- Lines.

length-more : (xs ys : List ℕ) → length (xs ++ ys) ≡ length xs + length ys
length-more [] ys = omega arith
length-more (x ∷ xs) ys = let rest = length-more xs ys in omega arith

pub cuts_there : (text front rest : List ℕ) → Quiet front → text ≡ front ++ 10 ∷ rest → CutsLine text (without_return front) rest
cuts_there text front rest quiet is =
    let count = length-more front (10 ∷ rest) in
    let long = ap (λ t. length t) is in
    record {
      lines = ap lines_of is ∙ lines_by_feed front rest quiet;
      cut = subst (λ t. IsCut t (without_return front) rest) (sym is) (cut_by_feed front rest);
      less = omega arith;
    }

pub cuts_piece : (text : List ℕ) → Quiet text → 0 < length text → CutsLine text text []
cuts_piece [] quiet some = absurd (omega (arith, some))
cuts_piece (byte ∷ rest) quiet some = record { lines = lines_of_piece byte rest quiet; cut = last_piece (λ none. cc); less = omega arith }

-- a carriage return at the end, and none there
pub returned_front : (front : List ℕ) → without_return (front ++ 13 ∷ []) ≡ front
returned_front [] = refl
returned_front (byte ∷ []) = refl
returned_front (byte ∷ next ∷ front) = ap (λ rest. byte ∷ rest) (returned_front (next ∷ front))

pub no_return : (line : List ℕ) → ((front : List ℕ) → line ≡ front ++ 13 ∷ [] → ⊥) → without_return line ≡ line
no_return [] none = refl
no_return (byte ∷ []) none = by_case (byte == 13) refl
  where
    by_case : (b : Bool) → (byte == 13) ≡ b → cond b [] (byte ∷ []) ≡ byte ∷ []
    by_case true test = let same : byte ≡ 13 = grind (arith, nat_tests) in absurd (none [] (ap (λ n. n ∷ []) same))
    by_case false test = refl
no_return (byte ∷ next ∷ rest) none = ap (λ line. byte ∷ line) (no_return (next ∷ rest) (λ front is. none (byte ∷ front) (ap (λ line. byte ∷ line) is)))

-- as the code tells that it cut one off, or that there is none
pub return_cut : (line front : List ℕ) → bytes_eq (drop (length line - 1) line) (13 ∷ []) ≡ true → front ≡ take (length line - 1) line → front ≡ without_return line
return_cut line front test is =
    let last : drop (length line - 1) line ≡ 13 ∷ [] = bytes_same (drop (length line - 1) line) (13 ∷ []) test in
    let whole : line ≡ front ++ 13 ∷ [] =
    sym (take-append-drop (length line - 1) line) ∙ (ap (λ t. t ++ drop (length line - 1) line) (sym is) ∙ ap (λ t. front ++ t) last) in
    sym (ap without_return whole ∙ returned_front front)

pub no_return_cut : (line : List ℕ) → bytes_eq (drop (length line - 1) line) (13 ∷ []) ≡ false → line ≡ without_return line
no_return_cut line test = sym (no_return line never)
  where
    never : (front : List ℕ) → line ≡ front ++ 13 ∷ [] → ⊥
    never front is =
        let long = ap (λ l. length l) is ∙ length-more front (13 ∷ []) in
        let count : length line - 1 ≡ length front = omega arith in
        let last : drop (length line - 1) line ≡ 13 ∷ [] = ap (λ n. drop n line) count ∙ (ap (drop (length front)) is ∙ front_rest (front ++ 13 ∷ []) front (13 ∷ []) refl) in
        let on : bytes_eq (drop (length line - 1) line) (13 ∷ []) ≡ true = ap (λ t. bytes_eq t (13 ∷ [])) last ∙ same_bytes (13 ∷ []) in
        let clash : true ≡ false = sym on ∙ test in
        cc

pub some_length : (n : ℕ) → false ≡ (n == 0) → 0 < n
some_length n test = grind (arith, nat_tests)
