-- Where the lags stand in a table: no two pairs of events share a place, and the place rises with either event.
--
-- The row of n takes the places from n * n to n * n + 2 * n, which is just below the square of n + 1.
use Rattle.std.proofs.Common.{◌≡◌, ℕ, ◌+◌, ◌*◌, ◌<◌, ◌≤◌, ◌⊎◌, inl, inr, arith, refl, ap, true, false, nat_lt}
use Rattle.std.proofs.lemmas.Bool.Decides.{nat_tests}
use Rattle.std.proofs.lemmas.Nat.{mul-le}
use Rattle.event_order.specs.Stored.{place_of}

less : (a b : ℕ) → a < b → nat_lt a b ≡ true
less a b below = grind (arith, nat_tests)

not_less : (a b : ℕ) → b ≤ a → nat_lt a b ≡ false
not_less a b above = grind (arith, nat_tests)

two_ways : (a b : ℕ) → (a < b) ⊎ (b ≤ a)
two_ways a b = grind arith

three_ways : (a b : ℕ) → (a < b) ⊎ ((a ≡ b) ⊎ (b < a))
three_ways a b = grind arith

pub place_to : (a b : ℕ) → a < b → place_of a b ≡ b * b + a
place_to a b below = rw (less a b below) refl

pub place_from : (a b : ℕ) → b ≤ a → place_of a b ≡ a * a + a + b
place_from a b above = rw (not_less a b above) refl

pub square_next : (a b : ℕ) → a < b → a * a + 2 * a + 1 ≤ b * b
square_next a b below = let squares : (a + 1) * (a + 1) ≤ b * b = mul-le (a + 1) (a + 1) b b (omega arith) (omega arith) in omega arith

square_least : (a b : ℕ) → a ≤ b → a * a ≤ b * b
square_least a b at_most = mul-le a a b b at_most at_most

pub square_small : (n : ℕ) → n ≤ 8192 → n * n ≤ 67108864
square_small n few = let squares : n * n ≤ 8192 * 8192 = mul-le n n 8192 8192 few few in omega arith

-- the place rises with the second event
pub rises_second : (a b c : ℕ) → c < b → place_of a c < place_of a b
rises_second a b c below = go (two_ways a c) (two_ways a b)
  where
    go : (a < c) ⊎ (c ≤ a) → (a < b) ⊎ (b ≤ a) → place_of a c < place_of a b
    go (inl k) (inl l) = let e = place_to a c k in let f = place_to a b l in let g = square_next c b below in omega arith
    go (inl k) (inr l) = absurd (omega arith)
    go (inr k) (inl l) = let e = place_from a c k in let f = place_to a b l in let g = square_next a b l in omega arith
    go (inr k) (inr l) = let e = place_from a c k in let f = place_from a b l in omega arith

-- and with the first
pub rises_first : (a b c : ℕ) → c < a → place_of c b < place_of a b
rises_first a b c below = go (two_ways c b) (two_ways a b)
  where
    go : (c < b) ⊎ (b ≤ c) → (a < b) ⊎ (b ≤ a) → place_of c b < place_of a b
    go (inl k) (inl l) = let e = place_to c b k in let f = place_to a b l in omega arith
    go (inl k) (inr l) = let e = place_to c b k in let f = place_from a b l in let g = square_least b a l in omega arith
    go (inr k) (inl l) = absurd (omega arith)
    go (inr k) (inr l) = let e = place_from c b k in let f = place_from a b l in let g = square_next c a below in omega arith

squares : (a b : ℕ) → a ≡ b → a * a ≡ b * b
squares a b same = ap (λ (n : ℕ). n * n) same

-- a place is that of one pair
pub one_pair : (a b c d : ℕ) → place_of a b ≡ place_of c d → (a ≡ c) × (b ≡ d)
one_pair a b c d same = go (two_ways a b) (two_ways c d)
  where
    rows_to_to : a < b → c < d → (b < d) ⊎ ((b ≡ d) ⊎ (d < b)) → (a ≡ c) × (b ≡ d)
    rows_to_to k l (inl m) = let e = place_to a b k in let f = place_to c d l in let g = square_next b d m in absurd (omega arith)
    rows_to_to k l (inr (inl m)) = let e = place_to a b k in let f = place_to c d l in let g = squares b d m in (omega arith, m)
    rows_to_to k l (inr (inr m)) = let e = place_to a b k in let f = place_to c d l in let g = square_next d b m in absurd (omega arith)

    rows_to_from : a < b → d ≤ c → (b < c) ⊎ ((b ≡ c) ⊎ (c < b)) → (a ≡ c) × (b ≡ d)
    rows_to_from k l (inl m) = let e = place_to a b k in let f = place_from c d l in let g = square_next b c m in absurd (omega arith)
    rows_to_from k l (inr (inl m)) = let e = place_to a b k in let f = place_from c d l in let g = squares b c m in absurd (omega arith)
    rows_to_from k l (inr (inr m)) = let e = place_to a b k in let f = place_from c d l in let g = square_next c b m in absurd (omega arith)

    rows_from_to : b ≤ a → c < d → (a < d) ⊎ ((a ≡ d) ⊎ (d < a)) → (a ≡ c) × (b ≡ d)
    rows_from_to k l (inl m) = let e = place_from a b k in let f = place_to c d l in let g = square_next a d m in absurd (omega arith)
    rows_from_to k l (inr (inl m)) = let e = place_from a b k in let f = place_to c d l in let g = squares a d m in absurd (omega arith)
    rows_from_to k l (inr (inr m)) = let e = place_from a b k in let f = place_to c d l in let g = square_next d a m in absurd (omega arith)

    rows_from_from : b ≤ a → d ≤ c → (a < c) ⊎ ((a ≡ c) ⊎ (c < a)) → (a ≡ c) × (b ≡ d)
    rows_from_from k l (inl m) = let e = place_from a b k in let f = place_from c d l in let g = square_next a c m in absurd (omega arith)
    rows_from_from k l (inr (inl m)) = let e = place_from a b k in let f = place_from c d l in let g = squares a c m in (m, omega arith)
    rows_from_from k l (inr (inr m)) = let e = place_from a b k in let f = place_from c d l in let g = square_next c a m in absurd (omega arith)

    go : (a < b) ⊎ (b ≤ a) → (c < d) ⊎ (d ≤ c) → (a ≡ c) × (b ≡ d)
    go (inl k) (inl l) = rows_to_to k l (three_ways b d)
    go (inl k) (inr l) = rows_to_from k l (three_ways b c)
    go (inr k) (inl l) = rows_from_to k l (three_ways a d)
    go (inr k) (inr l) = rows_from_from k l (three_ways a c)

-- the pairs of n events stand within n * n places
pub place_within : (a b n : ℕ) → a < n → b < n → place_of a b < n * n
place_within a b n k l = go (two_ways a b)
  where
    go : (a < b) ⊎ (b ≤ a) → place_of a b < n * n
    go (inl m) = let e = place_to a b m in let f = square_next b n l in omega arith
    go (inr m) = let e = place_from a b m in let f = square_next a n k in omega arith
