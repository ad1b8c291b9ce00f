-- Pieces of a line: what is read is what stands there, and what is written is read back.
use Rattle.std.proofs.Common.{◌≡◌, ℕ, ◌+◌, ◌<◌, ◌^◌, Bool, true, false, cond, ◌&&◌, ◌||◌, List, [], ◌∷◌, ◌++◌, drop, length, suc, ◌≢◌, Bor, MatchOption, Option, Some, None, refl, ap, sym, ◌∙◌, arith}
use Rattle.std.proofs.lemmas.Bool.{and_parts}
use Rattle.std.proofs.Math.Seq.{take-append_seam}
use Rattle.std.proofs.lemmas.List.{take-append-drop}
use Rattle.std.proofs.lemmas.List.Prefix.{front_rest}
use Rattle.std.proofs.lemmas.Bool.Decides.{nat_tests}
use Rattle.std.proofs.lemmas.Fmt.{decimal_is_IsNumeral}
use Rattle.std.proofs.lemmas.Str.Parse.{digit_from_value}
use Rattle.std.proofs.lemmas.Grind.{common_steps}
use Rattle.std.specs.Prelude.{◌==◌, nat_lt, bytes_eq, codes, decimal}
use Rattle.std.specs.Str.Parse.{AllDigits, digits_value}
use Rattle.std.specs.Char.{is_ascii_digit, digit_value}
use Rattle.std.specs.List.{prefix_len}
use Rattle.anvil_lexer.specs.GoodName.{begins_with_underscore, has_double_underscore, ends_with_underscore}
use Rattle.sv_tree.specs.Limits.{widest}
use Rattle.sv_lines.specs.Pieces.{◌>>=◌, after, front_run, after_run, number_at, with_first, cut, range_by, range_at}
use Rattle.sv_lines.proofs.read.Decided.{reads, passes, passes_on, bytes_same, same_bytes, number_same, same_number, none_of}

-- Words.

after_by : (byte first : ℕ) (word text rest : List ℕ) (found : Option (List ℕ)) → ((left : List ℕ) → found ≡ Some left → text ≡ word ++ left)
    → cond (byte == first) found None ≡ Some rest → first ∷ text ≡ byte ∷ (word ++ rest)
after_by byte first word text rest found stands e =
    let passed = passes_on (byte == first) found rest e in
    let same = number_same byte first passed.holds in
    let later = stands rest passed.same in
    cc

pub after_read : (word text rest : List ℕ) → after word text ≡ Some rest → text ≡ word ++ rest
after_read [] text rest e = cc
after_read (byte ∷ word) [] rest e = absurd cc
after_read (byte ∷ word) (first ∷ text) rest e = after_by byte first word text rest (after word text) (λ left. after_read word text left) e

pub after_back : (word rest : List ℕ) → after word (word ++ rest) ≡ Some rest
after_back [] rest = refl
after_back (byte ∷ word) rest = rw (same_number byte) (after_back word rest)

-- what the code finds behind a word
pub after_decided : (word text : List ℕ) (found : Option (Bor (List ℕ))) → MatchOption found ((rest : List ℕ) → text ≢ word ++ rest) (λ rest. text ≡ word ++ rest.now)
    → MatchOption found (after word text ≡ None) (λ rest. after word text ≡ Some rest.now)
after_decided word text None differs = none_of (after word text) (λ rest is. differs rest (after_read word text rest is))
after_decided word text (Some rest) is = rw is (after_back word rest.now)

-- Runs.

abbrev pub AllPass : (ℕ → Bool) → List ℕ → Type 0
AllPass test [] = Unit {0}
AllPass test (c ∷ cs) = (test c ≡ true) × AllPass test cs

abbrev pub StopsFirst : (ℕ → Bool) → List ℕ → Type 0
StopsFirst test [] = Unit {0}
StopsFirst test (c ∷ cs) = test c ≡ false

pub run_joined : (test : ℕ → Bool) (text : List ℕ) → text ≡ front_run test text ++ after_run test text
run_joined test text = sym (take-append-drop (prefix_len test text) text)

count_run : (test : ℕ → Bool) (front rest : List ℕ) → AllPass test front → StopsFirst test rest → prefix_len test (front ++ rest) ≡ length front
count_run test [] [] pass stops = refl
count_run test [] (c ∷ cs) pass stops = rw stops refl
count_run test (d ∷ front) rest pass stops =
    let one_more : 1 + length front ≡ suc (length front) = omega arith in
    rw (pass.0) (ap (λ n. 1 + n) (count_run test front rest pass.1 stops) ∙ one_more)

pub front_back : (test : ℕ → Bool) (front rest : List ℕ) → AllPass test front → StopsFirst test rest → front_run test (front ++ rest) ≡ front
front_back test front rest pass stops = rw (count_run test front rest pass stops) (take-append_seam front rest)

pub rest_back : (test : ℕ → Bool) (front rest : List ℕ) → AllPass test front → StopsFirst test rest → after_run test (front ++ rest) ≡ rest
rest_back test front rest pass stops = rw (count_run test front rest pass stops) (front_rest (front ++ rest) front rest refl)

-- Numbers.

digit_passes : (c : ℕ) → digit_value c < 10 → is_ascii_digit c ≡ true
digit_passes c below = let value = digit_from_value c below in grind (arith, common_steps, nat_tests)

digits_pass : (digits : List ℕ) → AllDigits 10 digits → AllPass is_ascii_digit digits
digits_pass [] all = tt
digits_pass (d ∷ digits) all = (digit_passes d all.0, digits_pass digits all.1)

pub decimal_passes : (n : ℕ) → n < 2 ^ 64 → AllPass is_ascii_digit (decimal n)
decimal_passes n small = digits_pass (decimal n) (decimal_is_IsNumeral n small).0.1

pub record NumberRead (text : List ℕ) (number : ℕ) (rest : List ℕ) : Type 0 where
  pub written : text ≡ decimal number ++ rest
  pub below : nat_lt number (2 ^ 64) ≡ true
  pub digits : front_run is_ascii_digit text ≡ decimal number

pub number_read : (text : List ℕ) (found : ℕ × List ℕ) → number_at text ≡ Some found → NumberRead text found.0 found.1
number_read text found e =
    let digits = front_run is_ascii_digit text in
    let value = digits_value 10 digits in
    let passed = passes (nat_lt value (2 ^ 64) && bytes_eq (decimal value) digits) (value, after_run is_ascii_digit text) found e in
    let tests = and_parts (nat_lt value (2 ^ 64)) (bytes_eq (decimal value) digits) passed.holds in
    let same = bytes_same (decimal value) digits tests.1 in
    let joined = run_joined is_ascii_digit text in
    let is_number : value ≡ found.0 = ap (λ (x : ℕ × List ℕ). x.0) passed.same in
    let is_rest : after_run is_ascii_digit text ≡ found.1 = ap (λ (x : ℕ × List ℕ). x.1) passed.same in
    record {
      written = rw (← is_number, ← is_rest, same) joined;
      below = rw (← is_number) tests.0;
      digits = rw (← is_number) (sym same);
    }

pub number_back : (number : ℕ) (rest : List ℕ) → nat_lt number (2 ^ 64) ≡ true → StopsFirst is_ascii_digit rest → number_at (decimal number ++ rest) ≡ Some (number, rest)
number_back number rest below stops =
    let small : number < 2 ^ 64 = grind (arith, nat_tests) in
    let pass = decimal_passes number small in
    let front = front_back is_ascii_digit (decimal number) rest pass stops in
    let left = rest_back is_ascii_digit (decimal number) rest pass stops in
    let value = (decimal_is_IsNumeral number small).1 in
    rw (front, left, value, below, same_bytes (decimal number)) refl

-- Names that end with `__`.

underscore_first : (rest : List ℕ) → begins_with_underscore rest ≡ true → rest ≡ 95 ∷ drop 1 rest
underscore_first [] e = absurd cc
underscore_first (byte ∷ rest) e = ap (λ c. c ∷ rest) (number_same byte 95 e)

cut_behind : (byte : ℕ) (rest : List ℕ) (parts : List ℕ × List ℕ) (found : Option (List ℕ × List ℕ))
    → ((later : List ℕ × List ℕ) → found ≡ Some later → rest ≡ later.0 ++ (codes "__" ++ later.1)) → with_first byte found ≡ Some parts
    → byte ∷ rest ≡ parts.0 ++ (codes "__" ++ parts.1)
cut_behind byte rest parts None stands e = absurd cc
cut_behind byte rest parts (Some later) stands e =
    let front : byte ∷ later.0 ≡ parts.0 = ap (λ (o : Option (List ℕ × List ℕ)). elim o [ None ↦ [] | Some x ↦ x.0 ]) e in
    let behind : later.1 ≡ parts.1 = ap (λ (o : Option (List ℕ × List ℕ)). elim o [ None ↦ later.1 | Some x ↦ x.1 ]) e in
    rw (← front, ← behind) (ap (λ l. byte ∷ l) (stands later refl))

cut_by : (byte : ℕ) (rest : List ℕ) (parts : List ℕ × List ℕ) (here : Bool) → ((byte == 95) && begins_with_underscore rest) ≡ here
    → ((later : List ℕ × List ℕ) → cut rest ≡ Some later → rest ≡ later.0 ++ (codes "__" ++ later.1))
    → cond here (Some ([], drop 1 rest)) (with_first byte (cut rest)) ≡ Some parts → byte ∷ rest ≡ parts.0 ++ (codes "__" ++ parts.1)
cut_by byte rest parts true is stands e =
    let tests = and_parts (byte == 95) (begins_with_underscore rest) is in
    let first = number_same byte 95 tests.0 in
    let second = underscore_first rest tests.1 in
    let front : [] ≡ parts.0 = ap (λ (o : Option (List ℕ × List ℕ)). elim o [ None ↦ [] | Some x ↦ x.0 ]) e in
    let behind : drop 1 rest ≡ parts.1 = ap (λ (o : Option (List ℕ × List ℕ)). elim o [ None ↦ drop 1 rest | Some x ↦ x.1 ]) e in
    rw (← front, ← behind, first) (ap (λ l. 95 ∷ l) second)
cut_by byte rest parts false is stands e = cut_behind byte rest parts (cut rest) stands e

pub cut_read : (text : List ℕ) (parts : List ℕ × List ℕ) → cut text ≡ Some parts → text ≡ parts.0 ++ (codes "__" ++ parts.1)
cut_read [] parts e = absurd cc
cut_read (byte ∷ rest) parts e = cut_by byte rest parts ((byte == 95) && begins_with_underscore rest) refl (λ later. cut_read rest later) e

-- a good name in front of `__`
neither : (one other : Bool) → (one || other) ≡ false → (one ≡ false) × (other ≡ false)
neither true other e = absurd cc
neither false other e = (refl, e)

pub cut_back : (name rest : List ℕ) → has_double_underscore name ≡ false → ends_with_underscore name ≡ false → cut (name ++ (codes "__" ++ rest)) ≡ Some (name, rest)
cut_back [] rest no_double no_end = refl
cut_back (byte ∷ []) rest no_double no_end = rw no_end refl
cut_back (byte ∷ next ∷ name) rest no_double no_end =
    let parts = neither ((byte == 95) && (next == 95)) (has_double_underscore (next ∷ name)) no_double in
    rw (parts.0, cut_back (next ∷ name) rest parts.1 no_end) refl

-- Widths.

pub record RangeRead (text : List ℕ) (width : ℕ) (rest : List ℕ) : Type 0 where
  pub high : ℕ
  pub is_width : width ≡ high + 1
  pub within : high < widest
  pub written : text ≡ decimal high ++ (codes ":0] " ++ rest)

pub range_read : (text : List ℕ) (found : ℕ × List ℕ) → range_at text ≡ Some found → RangeRead text found.0 found.1
range_read text found e =
    let number = reads (number_at text) (λ found. after (codes ":0] ") found.1 >>= (λ rest. range_by found.0 rest)) found e in
    let closing = reads (after (codes ":0] ") number.first.1) (λ rest. range_by number.first.0 rest) found number.is_next in
    let passed = passes (nat_lt number.first.0 widest) (number.first.0 + 1, closing.first) found closing.is_next in
    let written = number_read text number.first number.is_first in
    let behind = after_read (codes ":0] ") number.first.1 closing.first closing.is_first in
    let is_width : number.first.0 + 1 ≡ found.0 = ap (λ (x : ℕ × List ℕ). x.0) passed.same in
    let is_rest : closing.first ≡ found.1 = ap (λ (x : ℕ × List ℕ). x.1) passed.same in
    let holds = passed.holds in
    record {
      high = number.first.0;
      is_width = sym is_width;
      within = grind (arith, nat_tests);
      written = written.written ∙ ap (λ l. decimal number.first.0 ++ l) (behind ∙ ap (λ l. codes ":0] " ++ l) is_rest);
    }

pub range_back : (high : ℕ) (rest : List ℕ) → high < widest → range_at (decimal high ++ (codes ":0] " ++ rest)) ≡ Some (high + 1, rest)
range_back high rest within =
    let small : nat_lt high (2 ^ 64) ≡ true = grind (arith, nat_tests) in
    let fits : nat_lt high widest ≡ true = grind (arith, nat_tests) in
    rw (number_back high (codes ":0] " ++ rest) small refl, fits) refl
