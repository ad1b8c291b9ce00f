-- The number that a word is.
--
-- The claim: a number that is found is one of those that were looked through, and the word is its decimal; and the decimal of each of
-- them is found, since no two numbers have one decimal.
use Rattle.std.proofs.Common.{◌≡◌, ◌∙◌, ℕ, zero, suc, ◌+◌, ◌<◌, ◌≤◌, ◌^◌, Bool, true, false, List, Some, refl, sym, ap, arith}
use Rattle.std.specs.Prelude.{bytes_eq}
use Rattle.std.specs.Fmt.{decimal}
use Rattle.std.proofs.lemmas.Bool.{false≢true}
use Rattle.std.proofs.lemmas.Fmt.{decimal_injective}
use Rattle.std.proofs.lemmas.Option.{same_Some}
use Rattle.std.proofs.lemmas.Slice.Eq.{bytes_eq-Decides}
use Rattle.command_words.specs.Form.{most_number, number_among, number_of}

pub record IsNumber (first n : ℕ) (word : List ℕ) (number : ℕ) : Type 0 where
  pub is : word ≡ decimal number
  pub least : first ≤ number
  pub within : number < first + n

pub number_is : (first n : ℕ) (word : List ℕ) (number : ℕ) → number_among first n word ≡ Some number → IsNumber first n word number
number_is first zero word number found = absurd cc
number_is first (suc n) word number found = by_case (bytes_eq word (decimal first)) refl (number_is (first + 1) n word number)
  where
    by_case : (same : Bool) → bytes_eq word (decimal first) ≡ same → (number_among (first + 1) n word ≡ Some number → IsNumber (first + 1) n word number)
        → IsNumber first (suc n) word number
    by_case true test later =
        let one : first ≡ number = same_Some first number (rw test at found) in
        record { is = (bytes_eq-Decides word (decimal first)).0 test ∙ ap decimal one; least = omega (arith, one); within = omega (arith, one) }
    by_case false test later =
        let there = later (rw test at found) in
        record { is = there.is; least = omega (arith, there.least); within = omega (arith, there.within) }

pub number_of_is : (word : List ℕ) (number : ℕ) → number_of word ≡ Some number → IsNumber 1 most_number word number
unfolding number_of
number_of_is word number found = number_is 1 most_number word number found

-- the decimal of a number is found
found_among : (first n number : ℕ) → first ≤ number → number < first + n → first + n < 2 ^ 64 → number_among first n (decimal number) ≡ Some number
found_among first zero number least within few = absurd (omega (arith, least, within))
found_among first (suc n) number least within few =
    by_case (bytes_eq (decimal number) (decimal first)) refl (λ past. found_among (first + 1) n number past (omega (arith, within)) (omega (arith, few)))
  where
    by_case : (same : Bool) → bytes_eq (decimal number) (decimal first) ≡ same → (first + 1 ≤ number → number_among (first + 1) n (decimal number) ≡ Some number)
        → number_among first (suc n) (decimal number) ≡ Some number
    by_case true test later =
        let one = decimal_injective number first (omega (arith, within, few)) (omega (arith, few)) ((bytes_eq-Decides (decimal number) (decimal first)).0 test) in
        rw test (ap (λ k. Some k) (sym one))
    by_case false test later =
        let other : number ≡ first → ⊥ = λ same. false≢true (sym test ∙ (bytes_eq-Decides (decimal number) (decimal first)).1 (ap decimal same)) in
        rw test (later (omega (arith, least, other)))

pub number_of_decimal : (number : ℕ) → 1 ≤ number → number ≤ most_number → number_of (decimal number) ≡ Some number
unfolding number_of
number_of_decimal number least most = found_among 1 most_number number least (omega (arith, most)) (omega arith)

-- One number more was looked at.

pub number_here : (first n : ℕ) (word : List ℕ) → bytes_eq (decimal first) word ≡ true → number_among first (suc n) word ≡ Some first
number_here first n word same =
    let is : word ≡ decimal first = sym ((bytes_eq-Decides (decimal first) word).0 same) in
    rw ((bytes_eq-Decides word (decimal first)).1 is) refl

pub number_next : (first n : ℕ) (word : List ℕ) → bytes_eq (decimal first) word ≡ false → number_among first (suc n) word ≡ number_among (first + 1) n word
number_next first n word differs = by_case (bytes_eq word (decimal first)) refl
  where
    by_case : (same : Bool) → bytes_eq word (decimal first) ≡ same → number_among first (suc n) word ≡ number_among (first + 1) n word
    by_case true test =
        absurd (false≢true (sym differs ∙ (bytes_eq-Decides (decimal first) word).1 (sym ((bytes_eq-Decides word (decimal first)).0 test))))
    by_case false test = rw test refl
