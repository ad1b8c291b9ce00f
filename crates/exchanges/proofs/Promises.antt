-- While the promise of a port is kept, its latest exchange tells whether the data of a cycle breaks it.
--
-- A later exchange lives on at least as long as an earlier one, and has the same data while the promise is kept; so where any
-- earlier exchange lives, the latest one does, and has its data.
use Rattle.std.proofs.Common.{◌≡◌, ℕ, ◌+◌, ◌<◌, ◌≤◌, arith, refl, sym, ◌∙◌, ap, subst, Bool, true, false, ◌&&◌, ◌||◌, ◌==◌, not, if◌then◌else◌, nat_lt, List, [], ◌∷◌, suc, Option, Some, None}
use Rattle.std.proofs.lemmas.Bool.Decides.{nat_tests}
use Rattle.core_term.specs.Process.{LifeEnd, Cycles, Until}
use Rattle.core_term.specs.Wires.{Wires, Exchange, WithinAll, InLife, IsKept}
use Rattle.core_term.specs.History.{or_else}
use Rattle.core_term.specs.Outputs.{alive, latest}
use Rattle.core_term.specs.LogText.{exchanged, lives, is_shown}
use Rattle.run_laws.proofs.source_runs.Shown.{first_true, second_true, find, found_is, alive_within, within_alive, exchange_is, is_exchange}
use Rattle.exchanges.specs.declared.latest.Latest.{Latest}
use Rattle.exchanges.specs.Next.{LatestIs, latest_before, IsLatest}
use Rattle.exchanges.specs.Promise.{differs, BrokenBy, PromiseIsTold, ShownIsTold}

module _ (wires : Wires) where
  -- a life that has a cycle has each cycle before
  within_before : (life : List LifeEnd) (start earlier later : ℕ) → earlier ≤ later → WithinAll wires start later life → WithinAll wires start earlier life
  within_before [] start earlier later order within = tt
  within_before (Cycles count ∷ more) start earlier later order within = let last : later < start + count = within.0 in (omega arith, within_before more start earlier later order within.1)
  within_before (Until port ∷ more) start earlier later order within = ((λ t since before there. within.0 t since (omega arith) there), within_before more start earlier later order within.1)

  module _ (life : List LifeEnd) (m n : ℕ) (kept : Latest) (short : n < wires.count) (is : IsLatest (exchanged wires) life m (wires.data_at m) n kept) (before : (t : ℕ) → t < n → IsKept wires life m t) where
    -- where an exchange of before lives in n, the latest one does too, and has its data
    same_data : (start : ℕ) → start < n → Exchange wires m start → InLife wires life start n → (kept.lives ≡ true) × (kept.number.value ≡ wires.data_at m start)
    same_data start less exchange living =
        let found = find (exchanged wires m) n start less (is_exchange wires m start exchange) in
        let there : LatestIs (exchanged wires) life (wires.data_at m) n (Some found.0) kept = subst (λ o. LatestIs (exchanged wires) life (wires.data_at m) n o kept) found.1 is in
        let earlier : found.0 < n = found.3 in
        let since : start ≤ found.0 = found.2 in (
          there.0 ∙ within_alive wires life start found.0 n found.2 (omega arith) living.1,
          there.2 ∙ before found.0 earlier start found.0 exchange (omega arith) (since, within_before life start found.0 n (omega arith) living.1),
        )

    still_kept : differs kept (wires.data_at m n) ≡ false → IsKept wires life m n
    still_kept test start cycle exchange order living = at_cycle (nat_lt cycle n) refl
      where
        at_n : (start : ℕ) → Exchange wires m start → InLife wires life start n → (b : Bool) → nat_lt start n ≡ b → wires.data_at m n ≡ wires.data_at m start
        at_n start exchange living true earlier =
            let less : start < n = grind (arith, nat_tests) in
            let same = same_data start less exchange living in
            let not_other : not (kept.number.value == wires.data_at m n) ≡ false = sym (ap (λ b. b && not (kept.number.value == wires.data_at m n)) same.0) ∙ test in
            equal (kept.number.value == wires.data_at m n) refl not_other ∙ same.1
          where
            equal : (b : Bool) → (kept.number.value == wires.data_at m n) ≡ b → not b ≡ false → wires.data_at m n ≡ kept.number.value
            equal true is_equal same = let value : kept.number.value ≡ wires.data_at m n = grind (arith, nat_tests) in sym value
            equal false is_equal same = absurd cc
        at_n start exchange living false earlier =
            let since : start ≤ n = living.0 in
            let same : n ≡ start = let until : n ≤ start = grind (arith, nat_tests) in omega arith in
            ap (wires.data_at m) same

        at_cycle : (b : Bool) → nat_lt cycle n ≡ b → wires.data_at m cycle ≡ wires.data_at m start
        at_cycle true earlier = let less : cycle < n = grind (arith, nat_tests) in before cycle less start cycle exchange (omega arith) living
        at_cycle false earlier =
            let same : cycle ≡ n = let until : n ≤ cycle = grind (arith, nat_tests) in omega arith in
            ap (wires.data_at m) same ∙ at_n start exchange (subst (λ t. InLife wires life start t) same living) (nat_lt start n) refl

    broken_by : differs kept (wires.data_at m n) ≡ true → (start : ℕ) × BrokenBy wires life m n start
    broken_by test = by_latest (latest_before (exchanged wires m) n) refl is
      where
        by_latest : (o : Option ℕ) → latest_before (exchanged wires m) n ≡ o → LatestIs (exchanged wires) life (wires.data_at m) n o kept → (start : ℕ) × BrokenBy wires life m n start
        by_latest None none there = let lives : kept.lives ≡ true = first_true _ _ test in let clash : true ≡ false = sym lives ∙ there in absurd cc
        by_latest (Some start) some there =
            let found = found_is (exchanged wires m) n start some in
            let less : start < n = found.0 in
            let living : alive (exchanged wires) life start n ≡ true = sym there.0 ∙ first_true _ _ test in
            let other : not (kept.number.value == wires.data_at m n) ≡ true = second_true kept.lives _ test in (
              start,
              (less, exchange_is wires m start found.1, (omega arith, alive_within wires life start n (omega arith) living), λ same. clash (sym (there.2 ∙ sym same)) other),
            )
          where
            clash : wires.data_at m n ≡ kept.number.value → not (kept.number.value == wires.data_at m n) ≡ true → ⊥
            clash same other =
                let equal : (kept.number.value == wires.data_at m n) ≡ true = grind (arith, nat_tests) in
                let never : not true ≡ true = sym (ap not equal) ∙ other in
                cc

  -- a port is shown where it is valid, or its latest exchange before lives
  shown_by : (life : List LifeEnd) (m n : ℕ) (data_at : ℕ → ℕ) (kept : Latest) → IsLatest (exchanged wires) life m data_at n kept → is_shown wires life m n ≡ (wires.valid m n || kept.lives)
  shown_by life m n data_at kept is = by_valid (wires.valid m n) refl
    where
      quiet : (o : Option ℕ) → latest_before (exchanged wires m) n ≡ o → LatestIs (exchanged wires) life data_at n o kept → lives wires life n o ≡ kept.lives
      quiet None none there = sym there
      quiet (Some start) some there = sym there.0

      by_valid : (b : Bool) → wires.valid m n ≡ b → (b || lives wires life n (latest (exchanged wires m) n)) ≡ (b || kept.lives)
      by_valid true valid = refl
      by_valid false valid =
          let none : exchanged wires m n ≡ false = rw valid (and_false (nat_lt n wires.count)) in
          let later : n + 1 ≡ suc n = omega arith in
          let same : latest (exchanged wires m) n ≡ latest_before (exchanged wires m) n =
          ap (latest_before (exchanged wires m)) later ∙ ap (λ b. or_else (if b then Some n else None) (latest_before (exchanged wires m) n)) none in
          ap (lives wires life n) same ∙ quiet (latest_before (exchanged wires m) n) refl is
        where
          and_false : (b : Bool) → (b && false) ≡ false
          and_false true = refl
          and_false false = refl

pub told : PromiseIsTold
told wires life m n kept short is before = (still_kept wires life m n kept short is before, broken_by wires life m n kept short is before)

pub shown_told : ShownIsTold
shown_told wires life m n data_at kept is = shown_by wires life m n data_at kept is
