-- The registers that other threads set, thread by thread.
use Rattle.std.proofs.Common.{◌≡◌, ℕ, ◌+◌, ◌<◌, ◌≤◌, ◌⊎◌, inl, inr, arith, refl, sym, ◌∙◌, ap, subst, List, [], ◌∷◌, ◌++◌, length, map, zero, suc, Bool, true, false, if◌then◌else◌, ◌==◌, ◌||◌, Some, slice_get}
use Rattle.std.proofs.lemmas.Bool.{cases_lt, eqb-true}
use Rattle.core_term.specs.declared.process.CoreProc.{CoreProc}
use Rattle.core_term.specs.declared.term.CoreTerm.{CoreTerm}
use Rattle.core_term.specs.Lists.{Has}
use Rattle.core_term.specs.Numbering.{Numbered}
use Rattle.core_term.specs.Acts.{SetAt}
use Rattle.core_term.specs.Process.{Thread, IsThread}
use Rattle.core_term.specs.View.{term_of}
use Rattle.core_term.specs.ProcessView.{thread_of}
use Rattle.core_term.specs.AcceptedFile.{process_in}
use Rattle.act_deeds.specs.declared.deed.Deed.{Deed}
use Rattle.act_deeds.specs.declared.deed.Deed.TheVariants.{Sets, Sends, Receives, Decides, Other}
use Rattle.demand_checks.specs.Deeds.{AreDeeds, deed_at, deed_or}
use Rattle.demand_checks.specs.Thread.{IsSetElsewhere}
use Rattle.act_deeds.proofs.Deeds.{set_deed, deed_set}
use Rattle.demand_checks.proofs.Listed.{has_left, has_right, has_either, place_in}
use Rattle.demand_checks.proofs.Pointed.{widths_in}
use Rattle.loan_check.specs.Elsewhere.{AreElsewhere, AreElsewhereTo, is_among, with_register, with_set, with_sets}

pub among_has : (register : ℕ) (registers : List ℕ) → is_among register registers ≡ true → Has registers register
among_has register [] is = absurd cc
among_has register (other ∷ rest) is = go (other == register) refl (λ l. among_has register rest l)
  where
    go : (b : Bool) → (other == register) ≡ b → (is_among register rest ≡ true → Has rest register) → Has (other ∷ rest) register
    go true same deeper = inl (sym (eqb-true other register same))
    go false same deeper = inr (deeper (sym (ap (λ b. b || is_among register rest) same) ∙ is))

pub has_among : (register : ℕ) (registers : List ℕ) → Has registers register → is_among register registers ≡ true
has_among register [] has = elim has [ ]
has_among register (other ∷ rest) has = go (other == register) refl has (λ l. has_among register rest l)
  where
    go : (b : Bool) → (other == register) ≡ b → Has (other ∷ rest) register → (Has rest register → is_among register rest ≡ true) → (b || is_among register rest) ≡ true
    go true same there deeper = refl
    go false same (inl is) deeper = absurd (let known : (other == other) ≡ false = ap (λ n. other == n) (sym is) ∙ same in grind (arith, known))
    go false same (inr there) deeper = deeper there

-- with one register more
with_one : (one register : ℕ) (registers : List ℕ) → Has (with_register one registers) register → Has registers register ⊎ (register ≡ one)
with_one one register registers has = go (is_among one registers) has
  where
    go : (b : Bool) → Has (if b then registers else registers ++ one ∷ []) register → Has registers register ⊎ (register ≡ one)
    go true there = inl there
    go false there = elim (has_either registers (one ∷ []) register there) [ inl k ↦ inl k | inr k ↦ elim k [ inl is ↦ inr is | inr none ↦ absurd none ] ]

old_kept : (one register : ℕ) (registers : List ℕ) → Has registers register → Has (with_register one registers) register
old_kept one register registers has = go (is_among one registers)
  where
    go : (b : Bool) → Has (if b then registers else registers ++ one ∷ []) register
    go true = has
    go false = has_left registers _ register has

one_there : (one : ℕ) (registers : List ℕ) → Has (with_register one registers) one
one_there one registers = go (is_among one registers) refl
  where
    go : (b : Bool) → is_among one registers ≡ b → Has (if b then registers else registers ++ one ∷ []) one
    go true is = among_has one registers is
    go false is = has_right registers _ one (inl refl)

with_deed : (deed : Deed) (register : ℕ) (registers : List ℕ) → Has (with_set deed registers) register → Has registers register ⊎ (deed ≡ Sets register)
with_deed (Sets one) register registers has = elim (with_one one register registers has) [ inl k ↦ inl k | inr k ↦ inr (ap Sets (sym k)) ]
with_deed (Sends m) register registers has = inl has
with_deed (Receives m) register registers has = inl has
with_deed Decides register registers has = inl has
with_deed Other register registers has = inl has

deed_kept : (deed : Deed) (register : ℕ) (registers : List ℕ) → Has registers register → Has (with_set deed registers) register
deed_kept (Sets one) register registers has = old_kept one register registers has
deed_kept (Sends m) register registers has = has
deed_kept (Receives m) register registers has = has
deed_kept Decides register registers has = has
deed_kept Other register registers has = has

with_all : (deeds : List Deed) (register : ℕ) (registers : List ℕ) → Has (with_sets deeds registers) register → Has registers register ⊎ Has deeds (Sets register)
with_all [] register registers has = inl has
with_all (deed ∷ rest) register registers has = elim (with_all rest register (with_set deed registers) has) [
  | inl k ↦ elim (with_deed deed register registers k) [ inl l ↦ inl l | inr l ↦ inr (inl (sym l)) ]
  | inr k ↦ inr (inr k)
]

all_kept : (deeds : List Deed) (register : ℕ) (registers : List ℕ) → Has registers register → Has (with_sets deeds registers) register
all_kept [] register registers has = has
all_kept (deed ∷ rest) register registers has = all_kept rest register (with_set deed registers) (deed_kept deed register registers has)

all_there : (deeds : List Deed) (register : ℕ) (registers : List ℕ) → Has deeds (Sets register) → Has (with_sets deeds registers) register
all_there [] register registers has = elim has [ ]
all_there (deed ∷ rest) register registers (inl is) =
    all_kept rest register (with_set deed registers) (subst (λ d. Has (with_set d registers) register) is (one_there register registers))
all_there (deed ∷ rest) register registers (inr has) = all_there rest register (with_set deed registers) has

-- the thread of a number is that of the code's term
is_thread : (f : CoreTerm → Thread) (cores : List CoreTerm) (i : ℕ) (core : CoreTerm) → slice_get cores i ≡ Some core → IsThread (map f cores) i (f core)
is_thread f [] i core at = absurd cc
is_thread f (first ∷ cores) zero core at = let known : first ≡ core = cc in ap f known
is_thread f (first ∷ cores) (suc i) core at = is_thread f cores i core at

thread_is : (f : CoreTerm → Thread) (cores : List CoreTerm) (i : ℕ) (core : CoreTerm) (thread : Thread) → slice_get cores i ≡ Some core → IsThread (map f cores) i thread → f core ≡ thread
thread_is f [] i core thread at is = elim is [ ]
thread_is f (first ∷ cores) zero core thread at is = let known : first ≡ core = cc in ap f (sym known) ∙ is
thread_is f (first ∷ cores) (suc i) core thread at is = thread_is f cores i core thread at is

module _ (proc : CoreProc) (j : ℕ) where
  pub no_threads : AreElsewhereTo 0 proc j []
  no_threads = record { sound = λ register has. elim has [ ]; whole = λ register set below. absurd (omega (arith, below)) }

  pub same_thread : (i : ℕ) (registers : List ℕ) → i ≡ j → AreElsewhereTo i proc j registers → AreElsewhereTo (i + 1) proc j registers
  same_thread i registers same are = record {
    sound = are.sound;
    whole = λ register set below. are.whole register set (elim (cases_lt set.0 i) [ inl k ↦ k | inr k ↦ absurd (set.4 (omega (arith, same, below, k))) ]);
  }

  pub other_thread : (i : ℕ) (core : CoreTerm) (deeds : List Deed) (old new : List ℕ) → slice_get proc.threads.items i ≡ Some core → (i ≡ j → ⊥)
      → Numbered [] 0 (term_of (widths_in proc) core) → AreDeeds (term_of (widths_in proc) core) deeds → new ≡ with_sets deeds old
      → AreElsewhereTo i proc j old → AreElsewhereTo (i + 1) proc j new
  other_thread i core deeds old new at differs numbered deeds_are is are = subst (λ known. AreElsewhereTo (i + 1) proc j known) (sym is) (record {
    sound = λ register has. elim (with_all deeds register old has) [
      | inl k ↦ are.sound register k
      | inr k ↦
          (let known = place_in deeds (Sets register) k in
          (i, known.0, thread_of (widths_in proc) core, is_thread (thread_of (widths_in proc)) proc.threads.items i core at, differs, deed_set (term_of (widths_in proc) core) deeds deeds_are numbered known.0 register (ap deed_or known.1)))
    ];
    whole = λ register set below. elim (cases_lt set.0 i) [
      | inl k ↦ all_kept deeds register old (are.whole register set k)
      | inr k ↦ all_there deeds register old (written register set (omega (arith, below, k)))
    ];
  })
    where
      written : (register : ℕ) (set : IsSetElsewhere (process_in proc) j register) → set.0 ≡ i → Has deeds (Sets register)
      written register set same =
          let here : IsThread (process_in proc).threads i set.2 = subst (λ n. IsThread (process_in proc).threads n set.2) same set.3 in
          let thread = thread_is (thread_of (widths_in proc)) proc.threads.items i core set.2 at here in
          let sets : SetAt (term_of (widths_in proc) core) set.1 register = subst (λ t. SetAt t.body set.1 register) (sym thread) set.5 in
          deed_there deeds set.1 (set_deed (term_of (widths_in proc) core) deeds deeds_are set.1 register sets)
        where
          deed_there : (list : List Deed) (w : ℕ) → deed_at list w ≡ Sets register → Has list (Sets register)
          deed_there [] w k = absurd cc
          deed_there (first ∷ list) zero k = inl (sym k)
          deed_there (first ∷ list) (suc w) k = inr (deed_there list w k)

  pub all_threads : (high : ℕ) (registers : List ℕ) → length proc.threads.items ≤ high → AreElsewhereTo high proc j registers → AreElsewhere proc j registers
  all_threads high registers reach are = record {
    sound = are.sound;
    whole = λ register set. are.whole register set (let known = below_count (thread_of (widths_in proc)) proc.threads.items set.0 set.2 set.3 in omega (arith, known, reach));
  }
    where
      below_count : (f : CoreTerm → Thread) (cores : List CoreTerm) (i : ℕ) (thread : Thread) → IsThread (map f cores) i thread → i < length cores
      below_count f [] i thread is = elim is [ ]
      below_count f (first ∷ cores) zero thread is = omega arith
      below_count f (first ∷ cores) (suc i) thread is = let known = below_count f cores i thread is in omega (arith, known)
