-- The test of the log text tells exactly whether a port is offered or in the life of an exchange.
--
-- A later exchange lives on at least as long as an earlier one: its cycles last longer, and less comes between. So it is enough
-- to look at the latest exchange.
use Rattle.std.proofs.Common.{◌≡◌, ℕ, ◌+◌, ◌-◌, ◌<◌, ◌≤◌, inl, inr, arith, refl, sym, ◌∙◌, ap, Bool, true, false, ◌&&◌, ◌||◌, not, if◌then◌else◌, nat_lt, List, [], ◌∷◌, zero, suc, Option, Some, None}
use Rattle.std.proofs.lemmas.Bool.Decides.{nat_tests}
use Rattle.core_term.specs.Process.{LifeEnd, Cycles, Until}
use Rattle.core_term.specs.Wires.{Wires, Exchange, WithinAll}
use Rattle.core_term.specs.History.{or_else, greatest}
use Rattle.core_term.specs.Outputs.{none_in, alive, latest}
use Rattle.core_term.specs.Agreement.{Shows}
use Rattle.core_term.specs.LogText.{exchanged, lives, is_shown}

pub first_true : (a b : Bool) → (a && b) ≡ true → a ≡ true
first_true true b k = refl
first_true false b k = k

pub second_true : (a b : Bool) → (a && b) ≡ true → b ≡ true
second_true true b k = k
second_true false b k = absurd cc

pub both_true : (a b : Bool) → a ≡ true → b ≡ true → (a && b) ≡ true
both_true true b k l = l
both_true false b k l = absurd cc

-- The latest cycle.

pub found_is : (e : ℕ → Bool) (n u : ℕ) → greatest (λ u. if e u then Some u else None) n ≡ Some u → (u < n) × (e u ≡ true)
found_is e zero u k = absurd cc
found_is e (suc n) u k = go (e n) refl k (found_is e n u)
  where
    go : (b : Bool) → e n ≡ b → or_else (if b then Some n else None) (greatest (λ u. if e u then Some u else None) n) ≡ Some u → (greatest (λ u. if e u then Some u else None) n ≡ Some u → (u < n) × (e u ≡ true)) → (u < suc n) × (e u ≡ true)
    go true i j before = let equal : n ≡ u = cc in (omega arith, sym (ap e equal) ∙ i)
    go false i j before = let by_before = before j in let then_before = by_before.0 in (omega arith, by_before.1)

-- there is one where there is any, and it is no earlier
pub find : (e : ℕ → Bool) (n start : ℕ) → start < n → e start ≡ true → (u : ℕ) × (greatest (λ u. if e u then Some u else None) n ≡ Some u) × (start ≤ u) × (u < n)
find e zero start l k = absurd (omega arith)
find e (suc n) start l k = go (e n) refl (find e n start)
  where
    go : (b : Bool) → e n ≡ b → (start < n → e start ≡ true → (u : ℕ) × (greatest (λ u. if e u then Some u else None) n ≡ Some u) × (start ≤ u) × (u < n))
        → (u : ℕ) × (or_else (if e n then Some n else None) (greatest (λ u. if e u then Some u else None) n) ≡ Some u) × (start ≤ u) × (u < suc n)
    go true i before = (n, rw i refl, omega arith, omega arith)
    go false i before = at (nat_lt start n) refl
      where
        at : (b : Bool) → nat_lt start n ≡ b → (u : ℕ) × (or_else (if e n then Some n else None) (greatest (λ u. if e u then Some u else None) n) ≡ Some u) × (start ≤ u) × (u < suc n)
        at true f = let is_less : start < n = grind (arith, nat_tests) in let next_by_before = before is_less k in let by_next_by_before = next_by_before.3 in (next_by_before.0, rw i next_by_before.1, next_by_before.2, omega arith)
        at false f =
            let at_most : n ≤ start = grind (arith, nat_tests) in
            let next_equal : start ≡ n = omega arith in
            let decided : true ≡ false = sym k ∙ (ap e next_equal ∙ i) in absurd cc

module _ (wires : Wires) where
  pub exchange_is : (m t : ℕ) → exchanged wires m t ≡ true → Exchange wires m t
  exchange_is m t k =
      let next_decided : nat_lt t wires.count ≡ true = first_true _ _ k in
      let both = second_true (nat_lt t wires.count) _ k in
      (grind (arith, nat_tests), first_true (wires.valid m t) (wires.ack m t) both, second_true (wires.valid m t) (wires.ack m t) both)

  pub is_exchange : (m t : ℕ) → Exchange wires m t → exchanged wires m t ≡ true
  is_exchange m t k =
      let part = k.0 in
      let last_decided : nat_lt t wires.count ≡ true = grind (arith, nat_tests) in
      both_true (nat_lt t wires.count) _ last_decided (both_true (wires.valid m t) (wires.ack m t) k.1 k.2)

  pub none_says : (e : ℕ → Bool) (u n c : ℕ) → none_in e u n ≡ true → u ≤ c → c < u + n → e c ≡ true → ⊥
  none_says e u zero c k l m i = omega arith
  none_says e u (suc n) c k l m i = go (nat_lt u c) refl (λ low high. none_says e (u + 1) n c (second_true (not (e u)) _ k) low high i)
    where
      go : (b : Bool) → nat_lt u c ≡ b → (u + 1 ≤ c → c < u + 1 + n → ⊥) → ⊥
      go true f rest = let next_is_less : u < c = grind (arith, nat_tests) in rest (omega arith) (omega arith)
      go false f rest =
          let next_at_most : c ≤ u = grind (arith, nat_tests) in
          let equal : c ≡ u = omega arith in
          let other_decided : e u ≡ true = sym (ap e equal) ∙ i in
          let more_decided : not (e u) ≡ true = first_true _ _ k in
          let decided : not true ≡ true = sym (ap not other_decided) ∙ more_decided in absurd cc

  pub says_none : (e : ℕ → Bool) (u n : ℕ) → ((c : ℕ) → u ≤ c → c < u + n → e c ≡ true → ⊥) → none_in e u n ≡ true
  says_none e u zero k = refl
  says_none e u (suc n) k = both_true (not (e u)) _ (go (e u) refl) (says_none e (u + 1) n (λ c l m i. k c (omega arith) (omega arith) i))
    where
      go : (b : Bool) → e u ≡ b → not b ≡ true
      go true i = absurd (k u (omega arith) (omega arith) i)
      go false i = refl

  pub alive_within : (life : List LifeEnd) (u t : ℕ) → u ≤ t → alive (exchanged wires) life u t ≡ true → WithinAll wires u t life
  alive_within [] u t l k = tt
  alive_within (Cycles n ∷ more) u t l k = let next_decided : nat_lt t (u + n) ≡ true = first_true _ _ k in (grind (arith, nat_tests), alive_within more u t l (second_true (nat_lt t (u + n)) _ k))
  alive_within (Until m ∷ more) u t l k = (
    (λ c low high e. none_says (exchanged wires m) u (t - u) c (first_true _ _ k) low (omega arith) (is_exchange m c e)),
    alive_within more u t l (second_true (none_in (exchanged wires m) u (t - u)) _ k),
  )

  -- also of a later exchange
  pub within_alive : (life : List LifeEnd) (start u t : ℕ) → start ≤ u → u ≤ t → WithinAll wires start t life → alive (exchanged wires) life u t ≡ true
  within_alive [] start u t l m k = refl
  within_alive (Cycles n ∷ more) start u t l m k =
      let is_less : t < start + n = k.0 in
      let last_decided : nat_lt t (u + n) ≡ true = grind (arith, nat_tests) in
      both_true (nat_lt t (u + n)) _ last_decided (within_alive more start u t l m k.1)
  within_alive (Until q ∷ more) start u t l m k =
      both_true (none_in (exchanged wires q) u (t - u)) _ (says_none (exchanged wires q) u (t - u) (λ c low high e. k.0 c (omega arith) (omega arith) (exchange_is q c e))) (within_alive more start u t l m k.1)

  pub shown_is : (life : List LifeEnd) (m t : ℕ) → is_shown wires life m t ≡ true → Shows wires life m t
  shown_is life m t k = go (wires.valid m t) refl k
    where
      living : (o : Option ℕ) → latest (exchanged wires m) t ≡ o → lives wires life t o ≡ true → Shows wires life m t
      living None i j = absurd cc
      living (Some u) i j = let by_found_is = found_is (exchanged wires m) (t + 1) u i in let then_found_is = by_found_is.0 in inr (u, exchange_is m u by_found_is.1, (omega arith, alive_within life u t (omega arith) j))

      go : (b : Bool) → wires.valid m t ≡ b → (b || lives wires life t (latest (exchanged wires m) t)) ≡ true → Shows wires life m t
      go true i j = inl i
      go false i j = living (latest (exchanged wires m) t) refl j

  pub is_shown_from : (life : List LifeEnd) (m t : ℕ) → Shows wires life m t → is_shown wires life m t ≡ true
  is_shown_from life m t (inl k) = rw k refl
  is_shown_from life m t (inr (start, exchange, (early, within))) = go (wires.valid m t)
    where
      go : (b : Bool) → (b || lives wires life t (latest (exchanged wires m) t)) ≡ true
      go true = refl
      go false =
          let by_find = find (exchanged wires m) (t + 1) start (omega arith) (is_exchange m start exchange) in
          let then_find = by_find.3 in
          ap (lives wires life t) by_find.1 ∙ within_alive life start by_find.0 t by_find.2 (omega arith) within
