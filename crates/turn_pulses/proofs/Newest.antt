-- Of several acts the one that is shown is the one that began last, and its value is the one that is shown.
--
-- In a cycle in which some act begins, the first of them is shown, and it is the one that began last; in any other cycle what is
-- kept was shown a cycle before, and which act began last has not changed. No two acts began last: the later one would have begun
-- since, or the earlier one in text order at the same time. So the first that is shown is the only one.
use Rattle.std.proofs.Common.{◌≡◌, ℕ, ◌+◌, ◌<◌, ◌≤◌, ◌⊎◌, inl, inr, arith, refl, sym, ◌∙◌, ap, Bool, true, false, not, ◌&&◌, if◌then◌else◌, zero, suc}
use Rattle.std.proofs.lemmas.Bool.{cases_lt, cases_order}
use Rattle.turn_pulses.specs.Latest.{some_begin, IsNewest, BeganLast, first_shown}
use Rattle.turn_pulses.proofs.Reflects.{Reflects, holds, fails, same_bit, same_fact, reflects_or, reflects_and, reflects_not, reflects_itself, is_true, is_false, off}

abbrev pub SomeBegins : (begun : ℕ → ℕ → Bool) → (count cycle : ℕ) → Type 0
SomeBegins begun count cycle = (act : ℕ) × (act < count) × (begun act cycle ≡ true)

pub reflects_some : (begun : ℕ → ℕ → Bool) (count cycle : ℕ) → Reflects (SomeBegins begun count cycle) (some_begin begun count cycle)
reflects_some begun zero cycle = fails (λ some. let below = some.1 in omega arith) refl
reflects_some begun (suc count) cycle = same_fact there back (reflects_or (reflects_some begun count cycle) (reflects_itself (begun count cycle)))
  where
    there : SomeBegins begun count cycle ⊎ (begun count cycle ≡ true) → SomeBegins begun (suc count) cycle
    there (inl some) = (some.0, omega (arith, some.1), some.2)
    there (inr last) = (count, omega arith, last)

    back : SomeBegins begun (suc count) cycle → SomeBegins begun count cycle ⊎ (begun count cycle ≡ true)
    back some = by_place (cases_lt some.0 count)
      where
        by_place : (some.0 < count) ⊎ (count ≤ some.0) → SomeBegins begun count cycle ⊎ (begun count cycle ≡ true)
        by_place (inl inside) = inl (some.0, inside, some.2)
        by_place (inr last) = let same : some.0 ≡ count = omega (arith, some.1) in inr (rw same at (some.2))

module _ (count : ℕ) (begun shown kept : ℕ → ℕ → Bool) (newest_is : IsNewest count begun shown kept) where
  abbrev IsLast : (act cycle : ℕ) → Type 0
  IsLast act cycle = (start : ℕ) × BeganLast count begun act start cycle

  -- in a cycle in which some act begins
  begins_now : (act cycle : ℕ) → act < count → some_begin begun count cycle ≡ true → Reflects (IsLast act cycle) (begun act cycle && not (some_begin begun act cycle))
  begins_now act cycle below some = same_fact there back (reflects_and (reflects_itself (begun act cycle)) (reflects_not (reflects_some begun act cycle)))
    where
      there : (begun act cycle ≡ true) × (SomeBegins begun act cycle → ⊥) → IsLast act cycle
      there now = (
        cycle,
        record {
          by = omega arith;
          begins = now.0;
          since = λ other later inside after upto. absurd (omega arith);
          first = λ other before. off (λ begins. now.1 (other, before, begins));
        },
      )

      back : IsLast act cycle → (begun act cycle ≡ true) × (SomeBegins begun act cycle → ⊥)
      back is_last = by_time (cases_lt is_last.0 cycle)
        where
          last : BeganLast count begun act is_last.0 cycle
          last = is_last.1

          some_begins : SomeBegins begun count cycle
          some_begins = found (reflects_some begun count cycle)
            where
              found : Reflects (SomeBegins begun count cycle) (some_begin begun count cycle) → SomeBegins begun count cycle
              found (holds fact is_one) = fact
              found (fails none is_zero) = absurd (let impossible : true ≡ false = sym some ∙ is_zero in cc)

          by_time : (is_last.0 < cycle) ⊎ (cycle ≤ is_last.0) → (begun act cycle ≡ true) × (SomeBegins begun act cycle → ⊥)
          by_time (inl before) =
              absurd (let quiet : begun some_begins.0 cycle ≡ false = last.since some_begins.0 cycle some_begins.1 before (omega arith) in let begins = some_begins.2 in cc)
          by_time (inr now) =
              let same : is_last.0 ≡ cycle = let by = last.by in omega arith in
              let begins = last.begins in
              (rw same at begins, λ earlier. let quiet : begun earlier.0 is_last.0 ≡ false = last.first earlier.0 earlier.1 in let quiet_now : begun earlier.0 cycle ≡ false = rw same at quiet in let begins_now = earlier.2 in cc)

  -- in a cycle in which none begins
  none_begins : (act cycle : ℕ) → act < count → some_begin begun count (cycle + 1) ≡ false → Reflects (IsLast act cycle) (shown act cycle) → Reflects (IsLast act (cycle + 1)) (shown act cycle)
  none_begins act cycle below none = same_fact there back
    where
      quiet : (other : ℕ) → other < count → begun other (cycle + 1) ≡ false
      quiet other inside = off (λ begins. let some = is_true (reflects_some begun count (cycle + 1)) (other, inside, begins) in cc)

      there : IsLast act cycle → IsLast act (cycle + 1)
      there is_last =
          let last = is_last.1 in
          (is_last.0, record { by = let by = last.by in omega arith; begins = last.begins; since = λ other later inside after upto. by_time other later inside after upto (cases_lt later (cycle + 1)); first = last.first })
        where
          by_time : (other later : ℕ) → other < count → is_last.0 < later → later ≤ cycle + 1 → (later < cycle + 1) ⊎ (cycle + 1 ≤ later) → begun other later ≡ false
          by_time other later inside after upto (inl before) = let last = is_last.1 in last.since other later inside after (omega arith)
          by_time other later inside after upto (inr now) = let same : later ≡ cycle + 1 = omega arith in rw same (quiet other inside)

      back : IsLast act (cycle + 1) → IsLast act cycle
      back is_last = by_time (cases_lt cycle is_last.0)
        where
          last : BeganLast count begun act is_last.0 (cycle + 1)
          last = is_last.1

          by_time : (cycle < is_last.0) ⊎ (is_last.0 ≤ cycle) → IsLast act cycle
          by_time (inr before) = (is_last.0, record { by = before; begins = last.begins; since = λ other later inside after upto. last.since other later inside after (omega arith); first = last.first })
          by_time (inl now) =
              absurd (let by = last.by in let same : is_last.0 ≡ cycle + 1 = omega arith in let begins = last.begins in let begins_now : begun act (cycle + 1) ≡ true = rw same at begins in let not_now : begun act (cycle + 1) ≡ false = quiet act below in cc)

  pub newest : (act cycle : ℕ) → act < count → Reflects (IsLast act cycle) (shown act cycle)
  newest act zero below = by_begin (some_begin begun count 0) refl
    where
      by_begin : (some : Bool) → some_begin begun count 0 ≡ some → Reflects (IsLast act 0) (shown act 0)
      by_begin true some = same_bit (newest_is.shows act 0 below ∙ rw some refl) (begins_now act 0 below some)
      by_begin false none =
          same_bit (newest_is.shows act 0 below ∙ rw none (newest_is.none act))
          (fails (λ is_last. let last = is_last.1 in let by = last.by in let same : is_last.0 ≡ 0 = omega arith in let begins = last.begins in let begins_now : begun act 0 ≡ true = rw same at begins in let some = is_true (reflects_some begun count 0) (act, below, begins_now) in cc) refl)
  newest act (suc cycle) below = let same : suc cycle ≡ cycle + 1 = omega arith in rw same (by_begin (some_begin begun count (cycle + 1)) refl (newest act cycle below))
    where
      by_begin : (some : Bool) → some_begin begun count (cycle + 1) ≡ some → Reflects (IsLast act cycle) (shown act cycle) → Reflects (IsLast act (cycle + 1)) (shown act (cycle + 1))
      by_begin true some before = same_bit (newest_is.shows act (cycle + 1) below ∙ rw some refl) (begins_now act (cycle + 1) below some)
      by_begin false none before = same_bit (newest_is.shows act (cycle + 1) below ∙ rw none (newest_is.keeps act cycle below)) (none_begins act cycle below none before)

  -- no two acts began last
  only_one : (act other cycle : ℕ) → act < count → other < count → IsLast act cycle → IsLast other cycle → act < other → ⊥
  only_one act other cycle act_below other_below is_last other_is_last order = by_time (cases_order is_last.0 other_is_last.0)
    where
      last : BeganLast count begun act is_last.0 cycle
      last = is_last.1

      other_last : BeganLast count begun other other_is_last.0 cycle
      other_last = other_is_last.1

      by_time : (is_last.0 ≡ other_is_last.0) ⊎ ((is_last.0 < other_is_last.0) ⊎ (other_is_last.0 < is_last.0)) → ⊥
      by_time (inl same) = let quiet : begun act other_is_last.0 ≡ false = other_last.first act order in let begins = last.begins in let begins_then : begun act other_is_last.0 ≡ true = rw same at begins in cc
      by_time (inr (inl before)) = let quiet : begun other other_is_last.0 ≡ false = last.since other other_is_last.0 other_below before other_last.by in let begins = other_last.begins in cc
      by_time (inr (inr after)) = let quiet : begun act is_last.0 ≡ false = other_last.since act is_last.0 act_below after last.by in let begins = last.begins in cc

  module _ (value : ℕ → ℕ) (other cycle : ℕ) where
    abbrev value_from : (act many : ℕ) → ℕ
    value_from act many = first_shown (λ k. shown k cycle) value other act many

    found : (from many act : ℕ) → from + many ≡ count → from ≤ act → act < count → IsLast act cycle → value_from from many ≡ value act
    found from zero act whole above below is_last = absurd (omega arith)
    found from (suc fewer) act whole above below is_last = by_place (newest from cycle (omega arith)) (cases_order from act) (found (from + 1) fewer act (omega arith))
      where
        by_place : Reflects (IsLast from cycle) (shown from cycle) → (from ≡ act) ⊎ ((from < act) ⊎ (act < from))
            → (from + 1 ≤ act → act < count → IsLast act cycle → value_from (from + 1) fewer ≡ value act) → (if shown from cycle then value from else value_from (from + 1) fewer) ≡ value act
        by_place (holds from_last is_one) (inl same) rest = rw is_one (ap value same)
        by_place (holds from_last is_one) (inr (inl before)) rest = absurd (only_one from act cycle (omega arith) below from_last is_last before)
        by_place (holds from_last is_one) (inr (inr after)) rest = absurd (omega arith)
        by_place (fails none is_zero) (inl same) rest = absurd (none (rw same is_last))
        by_place (fails none is_zero) (inr (inl before)) rest = rw is_zero (rest (omega arith) below is_last)
        by_place (fails none is_zero) (inr (inr after)) rest = absurd (omega arith)

    none_found : (from many : ℕ) → from + many ≡ count → ((act : ℕ) → act < count → IsLast act cycle → ⊥) → value_from from many ≡ other
    none_found from zero whole none = refl
    none_found from (suc fewer) whole none = rw (is_false (newest from cycle (omega arith)) (none from (omega arith))) (none_found (from + 1) fewer (omega arith) none)

    pub value_is : (act : ℕ) → act < count → IsLast act cycle → value_from 0 count ≡ value act
    value_is act below is_last = found 0 count act (omega arith) (omega arith) below is_last

    pub other_is : ((act : ℕ) → act < count → IsLast act cycle → ⊥) → value_from 0 count ≡ other
    other_is none = none_found 0 count (omega arith) none
