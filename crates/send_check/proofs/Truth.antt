-- What the answers of tests that are joined say of each.
use Rattle.std.proofs.Common.{◌≡◌, ℕ, ◌<◌, ◌⊎◌, inl, inr, arith, refl, nat_lt, ◌&&◌, ◌||◌, not, Bool, true, false}
use Rattle.std.proofs.lemmas.Bool.Decides.{nat_tests}

pub and_first : (one other : Bool) → (one && other) ≡ true → one ≡ true
and_first true other is = refl
and_first false other is = absurd cc

pub and_second : (one other : Bool) → (one && other) ≡ true → other ≡ true
and_second true other is = is
and_second false other is = absurd cc

pub and_fails : (one other : Bool) → one ≡ true → (one && other) ≡ false → other ≡ false
and_fails true other holds is = is
and_fails false other holds is = absurd cc

pub or_first : (one other : Bool) → (one || other) ≡ false → one ≡ false
or_first true other is = absurd cc
or_first false other is = refl

pub or_second : (one other : Bool) → (one || other) ≡ false → other ≡ false
or_second true other is = absurd cc
or_second false other is = is

pub or_either : (one other : Bool) → (one || other) ≡ true → (one ≡ true) ⊎ (other ≡ true)
or_either true other is = inl refl
or_either false other is = inr is

pub not_true : (one : Bool) → not one ≡ true → one ≡ false
not_true true is = absurd cc
not_true false is = refl

pub not_false : (one : Bool) → not one ≡ false → one ≡ true
not_false true is = refl
not_false false is = absurd cc

pub less_of : (a b : ℕ) → nat_lt a b ≡ true → a < b
less_of a b is = grind (arith, nat_tests)

pub of_less : (a b : ℕ) → a < b → nat_lt a b ≡ true
of_less a b less = grind (arith, nat_tests)
