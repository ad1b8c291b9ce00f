-- That one cycle on, what is kept of the latest exchange of a port is what stands of it in the run.
--
-- An end of a life that has held up to a cycle holds one cycle more where the cycle's own exchanges and the age allow it. An age
-- that is counted no further is past every number of the code, so it is as good as the true one.
use Rattle.std.proofs.Common.{◌≡◌, ℕ, ◌+◌, ◌-◌, ◌<◌, ◌≤◌, ◌^◌, inl, inr, arith, refl, sym, subst, ◌∙◌, ap, List, [], ◌∷◌, Bool, true, false, if◌then◌else◌, ◌&&◌, nat_lt, zero, suc, Option, Some, None}
use Rattle.std.specs.Prelude.{not, slice_index_or, min}
use Rattle.std.proofs.lemmas.Bool.Decides.{nat_tests}
use Rattle.anvil_bits.specs.Number.{Number}
use Rattle.core_term.specs.Process.{LifeEnd, Cycles, Until}
use Rattle.core_term.specs.History.{or_else}
use Rattle.core_term.specs.Outputs.{none_in, alive}
use Rattle.exchanges.specs.declared.latest.Latest.{Latest}
use Rattle.exchanges.specs.Next.{oldest, Bounded, ends_hold, next, LatestIs, latest_before, IsLatest, LatestGoesOn}

-- Tests that hold together.

pub and_true : (a : Bool) → (a && true) ≡ a
and_true true = refl
and_true false = refl

and_false : (a : Bool) → (a && false) ≡ false
and_false true = refl
and_false false = refl

pub and_assoc : (a b c : Bool) → (a && (b && c)) ≡ ((a && b) && c)
and_assoc true b c = refl
and_assoc false b c = refl

swap_and : (a b c d : Bool) → ((a && b) && (c && d)) ≡ ((a && c) && (b && d))
swap_and true true c d = refl
swap_and true false true d = refl
swap_and true false false d = refl
swap_and false b c d = refl

bounded_rest : (end : LifeEnd) (life : List LifeEnd) → Bounded (end ∷ life) → Bounded life
bounded_rest end life bounded count has = bounded count (inr has)

none_in-suc : (exchange : ℕ → Bool) (start n : ℕ) → none_in exchange start (suc n) ≡ (none_in exchange start n && not (exchange (start + n)))
none_in-suc exchange start zero = rw (and_true (not (exchange start))) (ap (λ t. not (exchange t)) (omega arith))
none_in-suc exchange start (suc n) =
    let rest = none_in exchange (start + 1) n in
    ap (λ b. not (exchange start) && b) (none_in-suc exchange (start + 1) n)
    ∙ (and_assoc (not (exchange start)) rest (not (exchange (start + 1 + n))) ∙ ap (λ t. (not (exchange start) && none_in exchange (start + 1) n) && not (exchange t)) (omega arith))

module _ (exchange : ℕ → ℕ → Bool) (exchanged : List Bool) (n : ℕ) (now : (port : ℕ) → slice_index_or exchanged port false ≡ exchange port n) where
  -- an end of so many cycles, of an exchange in the cycle `start`
  cycles_end : (start count : ℕ) → start ≤ n → count < 2 ^ 16 → nat_lt (suc n) (start + count) ≡ (nat_lt n (start + count) && nat_lt (min (n - start) oldest + 1) count)
  cycles_end start count before bounded = by_case (nat_lt (suc n) (start + count)) refl
    where
      by_case : (b : Bool) → nat_lt (suc n) (start + count) ≡ b → b ≡ (nat_lt n (start + count) && nat_lt (min (n - start) oldest + 1) count)
      by_case true test =
          let within : suc n < start + count = grind (arith, nat_tests) in
          let this : nat_lt n (start + count) ≡ true = grind (arith, nat_tests) in
          let younger : min (n - start) oldest + 1 < count = omega arith in
          let next : nat_lt (min (n - start) oldest + 1) count ≡ true = grind (arith, nat_tests) in
          rw (this, next) refl
      by_case false test =
          let past : start + count ≤ suc n = grind (arith, nat_tests) in
          let older : count ≤ min (n - start) oldest + 1 = omega arith in
          let next : nat_lt (min (n - start) oldest + 1) count ≡ false = grind (arith, nat_tests) in
          rw next (sym (and_false (nat_lt n (start + count))))

  -- an end by the exchanges of another port
  until_end : (start port : ℕ) → start ≤ n → none_in (exchange port) start (suc n - start) ≡ (none_in (exchange port) start (n - start) && not (slice_index_or exchanged port false))
  until_end start port before =
      let one_more : suc n - start ≡ suc (n - start) = omega arith in
      let last : start + (n - start) ≡ n = omega arith in
      ap (none_in (exchange port) start) one_more
      ∙ (none_in-suc (exchange port) start (n - start) ∙ ap (λ b. none_in (exchange port) start (n - start) && not b) (ap (exchange port) last ∙ sym (now port)))

  -- an exchange of before that lives in the cycle n
  alive-suc : (life : List LifeEnd) (start : ℕ) → start ≤ n → Bounded life → alive exchange life start (suc n) ≡ (alive exchange life start n && ends_hold exchanged (min (n - start) oldest) life)
  alive-suc [] start before bounded = refl
  alive-suc (Cycles count ∷ more) start before bounded =
      rw (cycles_end start count before (bounded count (inl refl)), alive-suc more start before (bounded_rest (Cycles count) more bounded))
      (swap_and (nat_lt n (start + count)) (nat_lt (min (n - start) oldest + 1) count) (alive exchange more start n) (ends_hold exchanged (min (n - start) oldest) more))
  alive-suc (Until port ∷ more) start before bounded =
      rw (until_end start port before, alive-suc more start before (bounded_rest (Until port) more bounded))
      (swap_and (none_in (exchange port) start (n - start)) (not (slice_index_or exchanged port false)) (alive exchange more start n) (ends_hold exchanged (min (n - start) oldest) more))

  -- an exchange of the cycle n
  alive_now : (life : List LifeEnd) → ends_hold exchanged 0 life ≡ alive exchange life n (suc n)
  alive_now [] = refl
  alive_now (Cycles count ∷ more) = rw (alive_now more) (ap (λ b. b && alive exchange more n (suc n)) (by_case (nat_lt 1 count) refl))
    where
      by_case : (b : Bool) → nat_lt 1 count ≡ b → nat_lt (0 + 1) count ≡ nat_lt (suc n) (n + count)
      by_case true test =
          let more_than_one : 1 < count = grind (arith, nat_tests) in
          let within : nat_lt (suc n) (n + count) ≡ true = grind (arith, nat_tests) in
          test ∙ sym within
      by_case false test =
          let at_most_one : count ≤ 1 = grind (arith, nat_tests) in
          let past : nat_lt (suc n) (n + count) ≡ false = grind (arith, nat_tests) in
          test ∙ sym past
  alive_now (Until port ∷ more) =
      let one : suc n - n ≡ 1 = omega arith in
      rw (alive_now more, now port, one) (ap (λ b. b && alive exchange more n (suc n)) (sym (and_true (not (exchange port n)))))

  found_before : (at : ℕ → Bool) (count start : ℕ) → latest_before at count ≡ Some start → start < count
  found_before at zero start found = absurd cc
  found_before at (suc count) start found = by_case (at count) found (found_before at count start)
    where
      by_case : (b : Bool) → or_else (if b then Some count else None) (latest_before at count) ≡ Some start → (latest_before at count ≡ Some start → start < count) → start < suc count
      by_case true here before = let same : count ≡ start = cc in omega arith
      by_case false there before = let less = before there in omega arith

  pub latest_goes_on : (life : List LifeEnd) (m : ℕ) (data_at : ℕ → ℕ) (number : Number) (latest : Latest) → Bounded life → (exchange m n ≡ true → number.value ≡ data_at n) → IsLatest exchange life m data_at n latest
      → IsLatest exchange life m data_at (suc n) (next exchanged life (exchange m n) number latest)
  latest_goes_on life m data_at number latest bounded has_data is = by_case (exchange m n) refl (latest_before (exchange m) n) refl is
    where
      by_case : (b : Bool) → exchange m n ≡ b → (found : Option ℕ) → latest_before (exchange m) n ≡ found → LatestIs exchange life data_at n found latest
          → LatestIs exchange life data_at (suc n) (or_else (if b then Some n else None) found) (next exchanged life b number latest)
      by_case true here found before kept = (alive_now life, (let age : suc n - (n + 1) ≡ 0 = omega arith in rw age refl), has_data here)
      by_case false here None before kept = rw kept refl
      by_case false here (Some start) before kept =
          let less : start < n = found_before (exchange m) n start before in
          let age : min (latest.age + 1) oldest ≡ min (n - start) oldest = rw kept.1 (omega arith) in
          let older : min (n - start) oldest ≡ min (suc n - (start + 1)) oldest = ap (λ cycles. min cycles oldest) (omega arith) in (
            rw (kept.0, age) (sym (alive-suc life start (omega arith) bounded)),
            age ∙ older,
            kept.2,
          )

pub goes_on : LatestGoesOn
goes_on exchange life m n data_at exchanged number latest bounded now has_data is =
    let later : suc n ≡ n + 1 = omega arith in
    subst (λ t. IsLatest exchange life m data_at t (next exchanged life (exchange m n) number latest)) later (latest_goes_on exchange exchanged n now life m data_at number latest bounded has_data is)
