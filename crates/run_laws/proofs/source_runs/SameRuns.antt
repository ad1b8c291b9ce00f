-- Two runs over input lists with the same rows up to cycle t, whose registers are the same up to t, have the same turns up to
-- t, and write the same in cycle t. So their registers are the same one cycle later, and by induction up to the end.
--
-- The begins of turns never fall, so a turn that begins by t follows one that began by t.
use Rattle.std.proofs.Common.{◌≡◌, ℕ, ◌+◌, ◌<◌, ◌≤◌, arith, refl, sym, ◌∙◌, ap, subst, List, [], ◌∷◌, Bool, true, false, if◌then◌else◌, ◌==◌, ◌&&◌, nat_lt, nat_le, zero, suc, Option, Some, None}
use Rattle.std.proofs.lemmas.Bool.Decides.{nat_tests}
use Rattle.core_term.specs.Inputs.{Inputs}
use Rattle.core_term.specs.Term.{Term, Act, Cycle, Set, Send, Recv, If, When, Block, Wait, Pure, Nothing, head}
use Rattle.core_term.specs.Value.{Value, Outcome, Open, Done, value}
use Rattle.core_term.specs.Ends.{Sees, sees, ends}
use Rattle.core_term.specs.Fate.{Fate, Waits, Lost, Runs, fate}
use Rattle.core_term.specs.Turns.{no_variable, begin_after, next_begin, begins, run_from, run_of}
use Rattle.core_term.specs.Process.{Thread, Process}
use Rattle.core_term.specs.History.{greatest, set_by, set_at, written, written_by, IsHistory}
use Rattle.run_laws.specs.OneRun.{SameRows}
use Rattle.run_laws.proofs.turn_points.NotBefore.{NotBefore, ends_from, fate_from}
use Rattle.run_laws.proofs.source_runs.Causal.{SameScope, Alike, same_refl, swap, value_same, ends_same, fate_same, SameFate, Late, same_late, waits_late, late_from}

-- two source runs that see the same up to t
pub record Together (t : ℕ) (x x' : Inputs) (h h' : ℕ → ℕ → ℕ) : Type 0 where
  pub alike : Alike t x x' (sees h) (sees h')

pub together : (t : ℕ) (x x' : Inputs) (h h' : ℕ → ℕ → ℕ) → SameRows (t + 1) x x' → ((u r : ℕ) → u ≤ t → h u r ≡ h' u r) → Together t x x' h h'
together t x x' h h' rows same = record {
  alike = record {
    long = let by_long = rows.long in omega arith;
    long' = let by_other_long = rows.other_long in omega arith;
    valid = λ m u l. rows.valid m u (omega arith);
    data_at = λ m u l. rows.data_at m u (omega arith);
    ack = λ m u l. rows.ack m u (omega arith);
    registers = λ u r l. same u r l;
    decide = λ p s scope scope' e l k. ap (λ (v : Value). v.number == 1) (value_same t h h' scope scope' s (λ r. same s r l) l k e);
  };
}

-- where a turn leads to begins no earlier
begin_after_from : (x : Inputs) (b s : ℕ) (o : Outcome) → NotBefore b o → begin_after x o ≡ Some s → b ≤ s
begin_after_from x b s Open k e = absurd cc
begin_after_from x b s (Done c v) k e = go (nat_lt c x.count) e
  where
    go : (d : Bool) → (if d then Some c else None) ≡ Some s → b ≤ s
    go true i = let equal : c ≡ s = cc in omega arith
    go false i = absurd cc

-- the begin of a turn, if it is there by cycle t
record SameBegin (t : ℕ) (o o' : Option ℕ) : Type 0 where
  there : (s : ℕ) → o ≡ Some s → s ≤ t → o' ≡ Some s
  back : (s : ℕ) → o' ≡ Some s → s ≤ t → o ≡ Some s

module _ (t : ℕ) (body : Term) where
  begin_there : (x x' : Inputs) → t < x'.count → (o o' : Outcome) → ((e : ℕ) (v : Value) → e ≤ t → o ≡ Done e v → o' ≡ Done e v) → (s : ℕ) → begin_after x o ≡ Some s → s ≤ t → begin_after x' o' ≡ Some s
  begin_there x x' long Open o' k s e l = absurd cc
  begin_there x x' long (Done c v) o' k s e l = go (nat_lt c x.count) e
    where
      go : (b : Bool) → (if b then Some c else None) ≡ Some s → begin_after x' o' ≡ Some s
      go true j =
          let next_equal : c ≡ s = cc in
          let at_most : c ≤ t = omega arith in
          let decided : nat_lt c x'.count ≡ true = grind (arith, nat_tests) in
          rw (k c v at_most refl, decided) j
      go false j = absurd cc

  next_there : (x x' : Inputs) (h h' : Sees) → Alike t x x' h h' → (o o' : Option ℕ) → ((s : ℕ) → o ≡ Some s → s ≤ t → o' ≡ Some s) → (s : ℕ) → next_begin x h body o ≡ Some s → s ≤ t → next_begin x' h' body o' ≡ Some s
  next_there x x' h h' a None o' k s e l = absurd cc
  next_there x x' h h' a (Some b) o' k s e l =
      let next_at_most : b ≤ s = begin_after_from x b s (ends x h no_variable b body) (ends_from x h no_variable b body) e in
      let last_at_most : b ≤ t = omega arith in
      rw (k b refl last_at_most) (begin_there x x' a.long' _ _ (ends_same t x x' h h' a no_variable no_variable b last_at_most (λ y. same_refl t (no_variable y)) body).there s e l)

  module _ (x x' : Inputs) (h h' : Sees) (a : Alike t x x' h h') where
    begins_same : (i : ℕ) → SameBegin t (begins x h body i) (begins x' h' body i)
    begins_same zero =
        let is_less : t < x.count = a.long in
        let l' : t < x'.count = a.long' in
        let next_decided : nat_lt 0 x.count ≡ true = grind (arith, nat_tests) in
        let i' : nat_lt 0 x'.count ≡ true = grind (arith, nat_tests) in
        rw (next_decided, i') (record { there = λ s e is_less. e; back = λ s e is_less. e })
    begins_same (suc i) =
        let by_begins_same = begins_same i in
        record {
          there = next_there x x' h h' a (begins x h body i) (begins x' h' body i) by_begins_same.there;
          back = next_there x' x h' h (swap a) (begins x' h' body i) (begins x h body i) by_begins_same.back;
        }

    late_after : (y : Inputs) (g : Sees) (s q : ℕ) → t < s → Late t (fate y g no_variable s body q)
    late_after y g s q l = late_from t s _ l (fate_from y g no_variable s body q)

    -- what becomes of the act of a site in two turns that begin alike
    turn_same : (q : ℕ) (o o' : Option ℕ) → SameBegin t o o' → SameFate t (run_from x h body o q) (run_from x' h' body o' q)
    turn_same q None None k = same_late (waits_late t) (waits_late t)
    turn_same q None (Some s) k = go (nat_le s t) refl
      where
        go : (b : Bool) → nat_le s t ≡ b → SameFate t Waits (fate x' h' no_variable s body q)
        go true e = let at_most : s ≤ t = grind (arith, nat_tests) in let by_back = k.back s refl at_most in absurd cc
        go false e = let next_is_less : t < s = grind (arith, nat_tests) in same_late (waits_late t) (late_after x' h' s q next_is_less)
    turn_same q (Some s) None k = go (nat_le s t) refl
      where
        go : (b : Bool) → nat_le s t ≡ b → SameFate t (fate x h no_variable s body q) Waits
        go true e = let next_at_most : s ≤ t = grind (arith, nat_tests) in let by_there = k.there s refl next_at_most in absurd cc
        go false e = let last_is_less : t < s = grind (arith, nat_tests) in same_late (late_after x h s q last_is_less) (waits_late t)
    turn_same q (Some s) (Some s') k = go (nat_le s t) refl (nat_le s' t) refl
      where
        go : (b : Bool) → nat_le s t ≡ b → (b' : Bool) → nat_le s' t ≡ b' → SameFate t (fate x h no_variable s body q) (fate x' h' no_variable s' body q)
        go true e b' e' =
            let last_at_most : s ≤ t = grind (arith, nat_tests) in
            let next_by_there = k.there s refl last_at_most in
            let equal : s ≡ s' = cc in
            subst (λ w. SameFate t (fate x h no_variable s body q) (fate x' h' no_variable w body q)) equal (fate_same t x x' h h' a no_variable no_variable s last_at_most (λ equal. same_refl t (no_variable equal)) body q)
        go false e true e' =
            let other_at_most : s' ≤ t = grind (arith, nat_tests) in
            let is_less : t < s = grind (arith, nat_tests) in
            let next_by_back = k.back s' refl other_at_most in
            let next_equal : s ≡ s' = cc in absurd (omega arith)
        go false e false e' =
            let other_is_less : t < s = grind (arith, nat_tests) in
            let more_is_less : t < s' = grind (arith, nat_tests) in same_late (late_after x h s q other_is_less) (late_after x' h' s' q more_is_less)

    pub run_same : (i q : ℕ) → SameFate t (run_of x h body i q) (run_of x' h' body i q)
    run_same i q = turn_same q (begins x h body i) (begins x' h' body i) (begins_same i)

pub greatest_same : {A : Type 0} (f g : ℕ → Option A) (n : ℕ) → ((q : ℕ) → q < n → f q ≡ g q) → greatest f n ≡ greatest g n
greatest_same f g zero k = refl
greatest_same f g (suc n) k = rw (k n (omega arith), greatest_same f g n (λ q l. k q (omega arith))) refl

module _ (t : ℕ) (h h' : ℕ → ℕ → ℕ) (same : (s r : ℕ) → s ≤ t → h s r ≡ h' s r) where
  set_by_same : (r : ℕ) (scope scope' : ℕ → Outcome) (s : ℕ) (a : Act) → s ≤ t → SameScope t scope scope' → set_by h r t scope s a ≡ set_by h' r t scope' s a
  set_by_same r scope scope' s (Set p q e) l k = rw (value_same t h h' scope scope' s (λ r. same s r l) l k e) refl
  set_by_same r scope scope' s (Cycle p n) l k = refl
  set_by_same r scope scope' s (Send p m e) l k = refl
  set_by_same r scope scope' s (Recv p m) l k = refl
  set_by_same r scope scope' s (If p e u v w) l k = refl
  set_by_same r scope scope' s (When p e u) l k = refl
  set_by_same r scope scope' s (Block p u) l k = refl
  set_by_same r scope scope' s (Wait p y) l k = refl
  set_by_same r scope scope' s (Pure p e) l k = refl
  set_by_same r scope scope' s (Nothing p) l k = refl

  set_by_late : (g : ℕ → ℕ → ℕ) (r : ℕ) (scope : ℕ → Outcome) (s : ℕ) (a : Act) → t < s → set_by g r t scope s a ≡ None
  set_by_late g r scope s (Set p q e) l = let decided : (s == t) ≡ false = grind (arith, nat_tests) in go (q == r) decided
    where
      go : (b : Bool) → (s == t) ≡ false → (if b && (s == t) then Some (value g scope s e).number else None) ≡ None
      go true decided = rw decided refl
      go false decided = refl
  set_by_late g r scope s (Cycle p n) l = refl
  set_by_late g r scope s (Send p m e) l = refl
  set_by_late g r scope s (Recv p m) l = refl
  set_by_late g r scope s (If p e u v w) l = refl
  set_by_late g r scope s (When p e u) l = refl
  set_by_late g r scope s (Block p u) l = refl
  set_by_late g r scope s (Wait p y) l = refl
  set_by_late g r scope s (Pure p e) l = refl
  set_by_late g r scope s (Nothing p) l = refl

  set_at_late : (g : ℕ → ℕ → ℕ) (r : ℕ) (f : Fate) → Late t f → set_at g r t f ≡ None
  set_at_late g r Waits k = refl
  set_at_late g r Lost k = refl
  set_at_late g r (Runs scope s u) k = at (nat_le s t) refl
    where
      at : (b : Bool) → nat_le s t ≡ b → set_by g r t scope s (head u) ≡ None
      at true e = let at_most : s ≤ t = grind (arith, nat_tests) in absurd (k scope s u refl at_most)
      at false e = let is_less : t < s = grind (arith, nat_tests) in set_by_late g r scope s (head u) is_less

  set_at_same : (r : ℕ) (f f' : Fate) → SameFate t f f' → set_at h r t f ≡ set_at h' r t f'
  set_at_same r Waits f' k = sym (set_at_late h' r f' (λ scope s u e l. let by_back = k.back scope s u e l in absurd cc))
  set_at_same r Lost f' k = sym (set_at_late h' r f' (λ scope s u e l. let next_by_back = k.back scope s u e l in absurd cc))
  set_at_same r (Runs scope s u) f' k = go (nat_le s t) refl
    where
      go : (b : Bool) → nat_le s t ≡ b → set_by h r t scope s (head u) ≡ set_at h' r t f'
      go true e =
          let next_at_most : s ≤ t = grind (arith, nat_tests) in
          let by_there = k.there scope s u refl next_at_most in
          set_by_same r scope by_there.0 s (head u) next_at_most by_there.2 ∙ ap (set_at h' r t) (sym by_there.1)
      go false e =
          let next_is_less : t < s = grind (arith, nat_tests) in
          set_by_late h r scope s (head u) next_is_less ∙ sym (set_at_late h' r f' (λ scope' s' u' i l. let last_by_back = k.back scope' s' u' i l in let equal : s ≡ s' = cc in absurd (omega arith)))

  module _ (x x' : Inputs) (both : Together t x x' h h') where
    written_same : (thread : Thread) (r : ℕ) → written x h thread r t ≡ written x' h' thread r t
    written_same thread r =
        greatest_same _ _ thread.count (λ q m. greatest_same _ _ (t + 1) (λ i l. set_at_same r _ _ (run_same t thread.body x x' (sees h) (sees h') both.alike i q)))

    pub written_by_same : (threads : List Thread) (r : ℕ) → written_by x h threads r t ≡ written_by x' h' threads r t
    written_by_same [] r = refl
    written_by_same (thread ∷ threads) r = rw (written_same thread r, written_by_same threads r) refl

shorter : (n : ℕ) (x x' : Inputs) → SameRows (n + 1) x x' → SameRows n x x'
shorter n x x' rows = record {
  long = let by_long = rows.long in omega arith;
  other_long = let by_other_long = rows.other_long in omega arith;
  valid = λ m u l. rows.valid m u (omega arith);
  data_at = λ m u l. rows.data_at m u (omega arith);
  ack = λ m u l. rows.ack m u (omega arith);
}

-- the registers are the same up to the cycle before which the rows are
pub registers_same : (p : Process) (x x' : Inputs) (h h' : ℕ → ℕ → ℕ) → IsHistory p x h → IsHistory p x' h' → (n : ℕ) → SameRows n x x' → (t r : ℕ) → t ≤ n → h t r ≡ h' t r
registers_same p x x' h h' k k' zero rows t r l = let next_equal : t ≡ 0 = omega arith in rw next_equal (k.reset r ∙ sym (k'.reset r))
registers_same p x x' h h' k k' (suc n) rows t r l =
    let last_equal : suc n ≡ n + 1 = omega arith in
    let rows' : SameRows (n + 1) x x' = subst (λ m. SameRows m x x') last_equal rows in
    one_more rows' (λ s q m. registers_same p x x' h h' k k' n (shorter n x x' rows') s q m)
  where
    one_more : SameRows (n + 1) x x' → ((s q : ℕ) → s ≤ n → h s q ≡ h' s q) → h t r ≡ h' t r
    one_more rows' before = go (nat_le t n) refl
      where
        go : (b : Bool) → nat_le t n ≡ b → h t r ≡ h' t r
        go true e = let at_most : t ≤ n = grind (arith, nat_tests) in before t r at_most
        go false e =
            let is_less : n < t = grind (arith, nat_tests) in
            let equal : t ≡ n + 1 = omega arith in
            let next_is_less : n < x.count = let next_by_long = rows'.long in omega arith in
            let w' : n < x'.count = let next_by_other_long = rows'.other_long in omega arith in
            let other_equal : written_by x h p.threads r n ≡ written_by x' h' p.threads r n = written_by_same n h h' before x x' (together n x x' h h' rows' before) p.threads r in
            let more_equal : h n r ≡ h' n r = before n r (omega arith) in
            rw equal (k.step n r next_is_less ∙ (rw (other_equal, more_equal) refl ∙ sym (k'.step n r w')))
