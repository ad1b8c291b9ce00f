-- What is shown of an act is the choice of its latest begin; and of several writes the last counts.
--
-- By induction on the cycles since the begin: in the cycle of the begin the choice is shown, and after it what is kept is what was
-- shown a cycle before. Before the first begin the kept bit is the one of the reset.
use Rattle.std.proofs.Common.{◌≡◌, ℕ, ◌+◌, ◌-◌, ◌<◌, ◌≤◌, ◌⊎◌, inl, inr, arith, refl, sym, ◌∙◌, ap, Bool, true, false, if◌then◌else◌, zero, suc}
use Rattle.std.proofs.lemmas.Bool.{cases_lt}
use Rattle.turn_pulses.specs.Latest.{IsLatest, last_write}

module _ (begun choice shown kept : ℕ → Bool) (latest_is : IsLatest begun choice shown kept) where
  shown_after : (start more : ℕ) → begun start ≡ true → ((later : ℕ) → start < later → later ≤ start + more → begun later ≡ false) → shown (start + more) ≡ choice start
  shown_after start zero begins quiet = let same : start + 0 ≡ start = omega arith in rw same (latest_is.shows start ∙ rw begins refl)
  shown_after start (suc more) begins quiet =
      let same : start + suc more ≡ start + more + 1 = omega arith in
      let not_now : begun (start + more + 1) ≡ false = quiet (start + more + 1) (omega arith) (omega arith) in
      rw same (latest_is.shows (start + more + 1) ∙ rw not_now (latest_is.keeps (start + more) ∙ shown_after start more begins (λ later above below. quiet later above (omega arith))))

  pub latest : (start cycle : ℕ) → start ≤ cycle → begun start ≡ true → ((later : ℕ) → start < later → later ≤ cycle → begun later ≡ false) → shown cycle ≡ choice start
  latest start cycle by begins quiet =
      let same : cycle ≡ start + (cycle - start) = omega arith in
      rw same (shown_after start (cycle - start) begins (λ later above below. quiet later above (omega arith)))

  pub never : (cycle : ℕ) → ((earlier : ℕ) → earlier ≤ cycle → begun earlier ≡ false) → shown cycle ≡ false
  never zero quiet = latest_is.shows 0 ∙ rw (quiet 0 (omega arith)) latest_is.none
  never (suc before) quiet =
      let same : suc before ≡ before + 1 = omega arith in
      let not_now : begun (before + 1) ≡ false = quiet (before + 1) (omega arith) in
      rw same (latest_is.shows (before + 1) ∙ rw not_now (latest_is.keeps before ∙ never before (λ earlier below. quiet earlier (omega arith))))

module _ (begun : ℕ → Bool) (value : ℕ → ℕ) (old : ℕ) where
  pub written : (count act : ℕ) → act < count → begun act ≡ true → ((later : ℕ) → act < later → later < count → begun later ≡ false) → last_write begun value old count ≡ value act
  written zero act below begins quiet = absurd (omega arith)
  written (suc count) act below begins quiet = by_place (cases_lt act count) (written count act)
    where
      by_place : (act < count) ⊎ (count ≤ act) → (act < count → begun act ≡ true → ((later : ℕ) → act < later → later < count → begun later ≡ false) → last_write begun value old count ≡ value act)
          → (if begun count then value count else last_write begun value old count) ≡ value act
      by_place (inl inside) fewer = let not_last : begun count ≡ false = quiet count (omega arith) (omega arith) in rw not_last (fewer inside begins (λ later above within. quiet later above (omega arith)))
      by_place (inr last) fewer = let same : act ≡ count = omega arith in let begins_last : begun count ≡ true = rw same at begins in rw begins_last (ap value (sym same))

  pub unwritten : (count : ℕ) → ((act : ℕ) → act < count → begun act ≡ false) → last_write begun value old count ≡ old
  unwritten zero quiet = refl
  unwritten (suc count) quiet = rw (quiet count (omega arith)) (unwritten count (λ act below. quiet act (omega arith)))
