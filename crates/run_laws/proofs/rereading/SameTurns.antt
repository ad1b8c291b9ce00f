-- The same for all turns: by induction over turns, a turn of the one walk that begins by the cycle t is one of the other.
use Rattle.std.proofs.Common.{◌≡◌, ℕ, ◌<◌, ◌≤◌, arith, refl, sym, ◌∙◌, ap, [], Bool, true, false, if◌then◌else◌, nat_lt, nat_le, zero, suc, Option, Some, None}
use Rattle.std.proofs.lemmas.Bool.Decides.{nat_tests}
use Rattle.core_term.specs.Term.{Term}
use Rattle.core_term.specs.Value.{Value, Outcome, Open, Done}
use Rattle.core_term.specs.Inputs.{Inputs}
use Rattle.core_term.specs.Ends.{Sees, ends}
use Rattle.core_term.specs.Numbering.{size, Numbered}
use Rattle.core_term.specs.Turns.{no_variable, begin_after, next_begin, begins, run_from, run_of}
use Rattle.run_laws.proofs.source_runs.Causal.{SameTo, same_refl, SameFate, same_late, waits_late, Late, late_from}
use Rattle.run_laws.proofs.rereading.Agree.{RowsTo, agree, DecideAlike, late_as}
use Rattle.run_laws.proofs.turn_points.NotBefore.{fate_from}
use Rattle.run_laws.proofs.turn_points.Order.{next_after}
use Rattle.run_laws.proofs.rereading.Decide.{within}

module _ (t : ℕ) (inputs : Inputs) (g g' : Sees) (rows : RowsTo t inputs inputs) (same : (s r : ℕ) → s ≤ t → g.registers s r ≡ g'.registers s r) (body : Term) (numbered : Numbered [] 0 body)
    (alike : (i : ℕ) → DecideAlike t inputs inputs g g' (run_of inputs g body i) (run_of inputs g' body i) rows same) where
  -- the begin of a turn, if it is there by cycle t
  pub record SameBegin (o o' : Option ℕ) : Type 0 where
    pub there : (s : ℕ) → o ≡ Some s → s ≤ t → o' ≡ Some s
    pub back : (s : ℕ) → o' ≡ Some s → s ≤ t → o ≡ Some s

  turn_at : (i s : ℕ) → s ≤ t → begins inputs g body i ≡ Some s → begins inputs g' body i ≡ Some s
      → ((q : ℕ) → q < size body → SameFate t (run_of inputs g body i q) (run_of inputs g' body i q)) × SameTo t (ends inputs g no_variable s body) (ends inputs g' no_variable s body)
  turn_at i s l e e' =
      let by_agree = agree t inputs inputs g g' (run_of inputs g body i) (run_of inputs g' body i) rows same (alike i) [] 0 no_variable no_variable s body numbered l
      (record { each = λ q i j. ap (λ o. run_from inputs g body o q) e }) (record { each = λ q i j. ap (λ o. run_from inputs g' body o q) e' }) (λ y. same_refl t (no_variable y)) (λ p m. absurd (omega arith)) in
      ((λ q m. by_agree.0 q (omega arith) (omega arith)), by_agree.1)

  none_late : (f : Sees) (i q : ℕ) → begins inputs f body i ≡ None → Late t (run_of inputs f body i q)
  none_late f i q e = late_as (ap (λ o. run_from inputs f body o q) e) (waits_late t)

  some_late : (f : Sees) (i s q : ℕ) → begins inputs f body i ≡ Some s → t < s → Late t (run_of inputs f body i q)
  some_late f i s q e l = late_as (ap (λ o. run_from inputs f body o q) e) (late_from t s _ l (fate_from inputs f no_variable s body q))

  out_late : (f : Sees) (i q : ℕ) → size body ≤ q → Late t (run_of inputs f body i q)
  out_late f i q l scope s u e m = let by_within = within inputs body numbered f i q scope s u e in absurd (omega arith)

  inside_same : (i : ℕ) → SameBegin (begins inputs g body i) (begins inputs g' body i) → (q : ℕ) → q < size body → SameFate t (run_of inputs g body i q) (run_of inputs g' body i q)
  inside_same i k q l = go (begins inputs g body i) refl (begins inputs g' body i) refl
    where
      late_there : (s : ℕ) → begins inputs g body i ≡ Some s → begins inputs g' body i ≡ None → t < s
      late_there s e e' = at (nat_le s t) refl
        where
          at : (b : Bool) → nat_le s t ≡ b → t < s
          at true f = let at_most : s ≤ t = grind (arith, nat_tests) in let equal : None ≡ Some s = sym e' ∙ k.there s e at_most in absurd cc
          at false f = grind (arith, nat_tests)

      late_back : (s : ℕ) → begins inputs g' body i ≡ Some s → begins inputs g body i ≡ None → t < s
      late_back s e e' = at (nat_le s t) refl
        where
          at : (b : Bool) → nat_le s t ≡ b → t < s
          at true f = let next_at_most : s ≤ t = grind (arith, nat_tests) in let next_equal : None ≡ Some s = sym e' ∙ k.back s e next_at_most in absurd cc
          at false f = grind (arith, nat_tests)

      go : (o : Option ℕ) → begins inputs g body i ≡ o → (o' : Option ℕ) → begins inputs g' body i ≡ o' → SameFate t (run_of inputs g body i q) (run_of inputs g' body i q)
      go None e None e' = same_late (none_late g i q e) (none_late g' i q e')
      go None e (Some s) e' = same_late (none_late g i q e) (some_late g' i s q e' (late_back s e' e))
      go (Some s) e None e' = same_late (some_late g i s q e (late_there s e e')) (none_late g' i q e')
      go (Some s) e (Some s') e' = at (nat_le s t) refl (nat_le s' t) refl
        where
          at : (b : Bool) → nat_le s t ≡ b → (b' : Bool) → nat_le s' t ≡ b' → SameFate t (run_of inputs g body i q) (run_of inputs g' body i q)
          at true f b' f' = let last_at_most : s ≤ t = grind (arith, nat_tests) in (turn_at i s last_at_most e (k.there s e last_at_most)).0 q l
          at false f true f' = let other_at_most : s' ≤ t = grind (arith, nat_tests) in (turn_at i s' other_at_most (k.back s' e' other_at_most) e').0 q l
          at false f false f' = let is_less : t < s = grind (arith, nat_tests) in let next_is_less : t < s' = grind (arith, nat_tests) in same_late (some_late g i s q e is_less) (some_late g' i s' q e' next_is_less)

  begin_there : (o o' : Outcome) → ((e : ℕ) (v : Value) → e ≤ t → o ≡ Done e v → o' ≡ Done e v) → (s : ℕ) → begin_after inputs o ≡ Some s → s ≤ t → begin_after inputs o' ≡ Some s
  begin_there Open o' k s e l = absurd cc
  begin_there (Done c v) o' k s e l = go (nat_lt c inputs.count) refl e
    where
      go : (b : Bool) → nat_lt c inputs.count ≡ b → (if b then Some c else None) ≡ Some s → begin_after inputs o' ≡ Some s
      go true i j = let equal : c ≡ s = cc in let at_most : c ≤ t = omega arith in rw (k c v at_most refl, i) j
      go false i j = absurd cc

  next_there : (f f' : Sees) (o o' : Option ℕ) → ((s : ℕ) → o ≡ Some s → s ≤ t → o' ≡ Some s) → ((s : ℕ) → s ≤ t → o ≡ Some s → o' ≡ Some s → (e : ℕ) (v : Value) → e ≤ t → ends inputs f no_variable s body ≡ Done e v → ends inputs f' no_variable s body ≡ Done e v)
      → (s : ℕ) → next_begin inputs f body o ≡ Some s → s ≤ t → next_begin inputs f' body o' ≡ Some s
  next_there f f' None o' k e s n l = absurd cc
  next_there f f' (Some b) o' k e s n l =
      let next_at_most : b ≤ s = next_after inputs f body numbered (Some b) b s refl n in
      let last_at_most : b ≤ t = omega arith in
      let next_equal : o' ≡ Some b = k b refl last_at_most in
      rw next_equal (begin_there _ _ (e b last_at_most refl next_equal) s n l)

  pub begins_same : (i : ℕ) → SameBegin (begins inputs g body i) (begins inputs g' body i)
  begins_same zero = record { there = λ s e l. e; back = λ s e l. e }
  begins_same (suc i) =
      let by_begins_same = begins_same i in
      record {
        there = next_there g g' (begins inputs g body i) (begins inputs g' body i) by_begins_same.there (λ s l e e'. (turn_at i s l e e').1.there);
        back = next_there g' g (begins inputs g' body i) (begins inputs g body i) by_begins_same.back (λ s l e e'. (turn_at i s l e' e).1.back);
      }

  pub fates_same : (i q : ℕ) → SameFate t (run_of inputs g body i q) (run_of inputs g' body i q)
  fates_same i q = go (nat_lt q (size body)) refl
    where
      go : (b : Bool) → nat_lt q (size body) ≡ b → SameFate t (run_of inputs g body i q) (run_of inputs g' body i q)
      go true e = let is_less : q < size body = grind (arith, nat_tests) in inside_same i (begins_same i) q is_less
      go false e = let at_most : size body ≤ q = grind (arith, nat_tests) in same_late (out_late g i q at_most) (out_late g' i q at_most)
