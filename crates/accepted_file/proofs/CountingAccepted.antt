-- A thread that counts a register keeps every demand, in any process; so a file of such threads has no violations.
--
-- Its one use of a value is that of the set, which uses the register as it reads it: the claim holds of the begin of the set and
-- itself. It has one set, no port and no `if`, so no other demand speaks of it.
use Rattle.std.proofs.Common.{◌≡◌, ℕ, inl, inr, arith, refl, sym, ◌∙◌, ap, subst, List, [], ◌∷◌, ◌++◌, map, zero, suc}
use Rattle.std.specs.Prelude.{pos}
use Rattle.std.proofs.lemmas.Int.{ints}
use Rattle.order_rules.specs.Before as order
use Rattle.core_term.specs.declared.operators.BinOp.TheVariants.{Add}
use Rattle.core_term.specs.Lists.{Has}
use Rattle.core_term.specs.Term.{Expr, Lit, Reg, Bin, Term, One, Act, Cycle, Set, site, head}
use Rattle.core_term.specs.Stands.{Stands, here, in_one, in_then, after_then}
use Rattle.core_term.specs.Acts.{HasAct, Uses, Reads, Sets, Receives, Sends}
use Rattle.core_term.specs.Process.{Process, Thread, IsThread}
use Rattle.core_term.specs.Sources.{Source, RegOf, ChoiceOf, expr_sources, sources_in}
use Rattle.core_term.specs.Rules.{Holds, RestsOn, Meets, KeepsDemands, use_by, begin_of, made, sets, receives, sends, sends_next, wire_within, wire_until, set_elsewhere, set_here, choice}
use Rattle.core_term.specs.Widths.{Widths}
use Rattle.accepted_file.specs.Example.{counting_term}
use Rattle.core_term.specs.declared.term.CoreTerm.{CoreTerm}
use Rattle.core_term.specs.declared.process.CoreProc.{CoreProc}
use Rattle.core_term.specs.View.{term_of}
use Rattle.core_term.specs.ProcessView.{port_of, register_of, widths_of, thread_of}
use Rattle.core_term.specs.AcceptedFile.{process_in, file_of}
use Rattle.core_term.specs.Violations.{HasNoViolations}
use Rattle.run_laws.proofs.safe_runs.NoViolations.{to_empty}
use Rattle.run_laws.proofs.safe_runs.AllSafe.{nth_of}

module _ (widths : Widths) (r : ℕ) where
  abbrev next : Expr
  next = Bin Add (widths.registers r) 8 (Reg r) (Lit 8 1)

  abbrev body : Term
  body = counting_term widths r

  -- an act of the text is the set or the cycle
  data Place (vs : List Act) (u : Term) : Type 0 where
    at_set : u ≡ body → vs ≡ [] → Place vs u
    at_cycle : u ≡ One (Cycle 1 2) → Place vs u

  places : {vs : List Act} {u : Term} → Stands [] body vs u → Place vs u
  places here = at_set refl refl
  places (in_then s) = elim s [ ]
  places (after_then here) = at_cycle refl
  places (after_then (in_one s)) = elim s [ ]

  none_of : (P : Act → Type 0) → (P (Set 0 r next) → ⊥) → (P (Cycle 1 2) → ⊥) → (w : ℕ) → HasAct body w P → ⊥
  none_of P k l w (vs, u, s, e, i) = go (places s)
    where
      go : Place vs u → ⊥
      go (at_set q v) = let Statement : Term → Type 0 = λ z. P (head z) in k (subst Statement q i)
      go (at_cycle q) = let next_Statement : Term → Type 0 = λ z. P (head z) in l (subst next_Statement q i)

  a_set : (w q : ℕ) → HasAct body w (λ a. Sets a q) → w ≡ 0
  a_set w q (vs, u, s, e, i) = go (places s)
    where
      go : Place vs u → w ≡ 0
      go (at_set k v) = sym e ∙ ap (λ z. site (head z)) k
      go (at_cycle k) = let last_Statement : Term → Type 0 = λ z. Sets (head z) q in absurd (subst last_Statement k i)

  -- the one value in use rests on the register
  rests_on : (u : Term) (a : Source) → RestsOn body u a → (u ≡ body) × (a ≡ RegOf 0 r)
  rests_on u a k = go (places k.stands)
    where
      from_value : (e : Expr) → next ≡ e → Has (expr_sources 0 (sources_in []) e) a → a ≡ RegOf 0 r
      from_value e q h = let other_Statement : Expr → Type 0 = λ z. Has (expr_sources 0 (sources_in []) z) a in elim (subst other_Statement (sym q) h) [ inl i ↦ i | inr i ↦ absurd i ]

      go : Place k.scope u → (u ≡ body) × (a ≡ RegOf 0 r)
      go (at_cycle q) = let more_Statement : Term → Type 0 = λ z. Uses (head z) k.value in absurd (subst more_Statement q k.uses)
      go (at_set q v) =
          let further_Statement : Term → Type 0 = λ z. Uses (head z) k.value in
          let second_Statement : Term → List Act → Type 0 = λ z vs. Has (expr_sources (site (head z)) (sources_in vs) k.value) a in
          (q, from_value k.value (subst further_Statement q k.uses) (subst (λ z. second_Statement z []) q (subst (λ vs. second_Statement u vs) v k.has)))

  -- it is used as it is read
  used_at_once : (p : Process) (u : Term) (q n : ℕ) → RestsOn body u (RegOf q n) → Holds p body (use_by (head u) (pos 0) (begin_of q))
  used_at_once p u q n k =
      let by_rests_on = rests_on u (RegOf q n) k in
      let q_is : q ≡ 0 = cc in
      rw (by_rests_on.0, q_is) (order.here {d = pos 0} (omega (arith, ints)))

  pub meets : (p : Process) (j : ℕ) → Meets p j body
  meets p j _ _ _ _ (made scope u y s k) = absurd (go (places s))
    where
      go : Place scope u → ⊥
      go (at_set q v) = let Statement : Term → Type 0 = λ z. Reads (head z) y in elim (subst Statement q k) [ inl i ↦ i | inr i ↦ i ]
      go (at_cycle q) = let next_Statement : Term → Type 0 = λ z. Reads (head z) y in subst next_Statement q k
  meets p j _ _ _ _ (sets q w n a b l) = let by_a_set = a_set q n a in let next_by_a_set = a_set w n b in absurd (omega arith)
  meets p j _ _ _ _ (receives q w m a b l) = absurd (none_of (λ a. Receives a m) (λ k. k) (λ k. k) q a)
  meets p j _ _ _ _ (sends q w m a b l) = absurd (none_of (λ a. Sends a m) (λ k. k) (λ k. k) q a)
  meets p j _ _ _ _ (sends_next q w m a b) = absurd (none_of (λ a. Sends a m) (λ k. k) (λ k. k) q a)
  meets p j _ _ _ _ (wire_within u q m k s a e) = absurd (none_of (λ a. Receives a m) (λ k. k) (λ k. k) q a)
  meets p j _ _ _ _ (wire_until u q m n w s a e b) = absurd (none_of (λ a. Receives a m) (λ k. k) (λ k. k) q a)
  meets p j _ _ _ _ (set_elsewhere u q n i w other s is different set) = used_at_once p u q n s
  meets p j _ _ _ _ (set_here u q n w s set) = inl (used_at_once p u q n s)
  meets p j _ _ _ _ (choice u q s) = let next_by_rests_on = rests_on u (ChoiceOf q) s in absurd cc

thread_in : (widths : Widths) (bodies : List CoreTerm) (j : ℕ) (thread : Thread) → IsThread (map (thread_of widths) bodies) j thread → (body : CoreTerm) × Has bodies body × (thread_of widths body ≡ thread)
thread_in widths [] j thread k = elim k [ ]
thread_in widths (first ∷ rest) zero thread k = (first, inl refl, k)
thread_in widths (first ∷ rest) (suc j) thread k = let by_thread_in = thread_in widths rest j thread k in (by_thread_in.0, inr by_thread_in.1, by_thread_in.2)

-- a file all of whose threads count has no violations
abbrev pub Counts : CoreTerm → Type 0
Counts body = (r : ℕ) × ((widths : Widths) → term_of widths body ≡ counting_term widths r)

accepted_process : (proc : CoreProc) → ((body : CoreTerm) → Has proc.threads.items body → Counts body) → KeepsDemands (process_in proc)
accepted_process proc counts j thread is =
    let widths : Widths = widths_of (map port_of proc.ports.items) (map register_of proc.regs.items) in
    let next_by_thread_in = thread_in widths proc.threads.items j thread is in
    let by_counts = counts next_by_thread_in.0 next_by_thread_in.1 in
    let Statement : Term → Type 0 = λ body. Meets (process_in proc) j body in
    let next_Statement : Thread → Type 0 = λ thread. Meets (process_in proc) j thread.body in
    subst next_Statement next_by_thread_in.2 (subst Statement (sym (by_counts.1 widths)) (meets widths by_counts.0 (process_in proc) j))

pub no_violations : (procs : List CoreProc) → ((proc : CoreProc) → Has procs proc → (body : CoreTerm) → Has proc.threads.items body → Counts body) → HasNoViolations (file_of procs)
no_violations procs counts =
    to_empty (file_of procs) (λ i p nth.
    let by_nth_of = nth_of procs i p nth in
    let last_Statement : Process → Type 0 = λ p. KeepsDemands p in
    subst last_Statement by_nth_of.2 (accepted_process by_nth_of.0 (counts by_nth_of.0 by_nth_of.1)))

-- a file of one process with one thread, as pushing makes it
pub one_thread : (procs old : List CoreProc) (proc : CoreProc) (old_threads : List CoreTerm) (body : CoreTerm) → procs ≡ old ++ (proc ∷ []) → old ≡ [] → proc.threads.items ≡ old_threads ++ (body ∷ []) → old_threads ≡ [] → Counts body → HasNoViolations (file_of procs)
one_thread procs old proc old_threads body is_pushed old_is is_thread threads_are counts =
    let procs_are : procs ≡ proc ∷ [] = is_pushed ∙ ap (λ items. items ++ (proc ∷ [])) old_is in
    let bodies_are : proc.threads.items ≡ body ∷ [] = is_thread ∙ ap (λ items. items ++ (body ∷ [])) threads_are in
    let Clean : List CoreProc → Type 0 = λ items. HasNoViolations (file_of items) in
    subst Clean (sym procs_are) (no_violations (proc ∷ []) (λ other there. here_only other there bodies_are))
  where
    in_one_list : (other : CoreTerm) → Has (body ∷ []) other → Counts other
    in_one_list other (inl same) = subst Counts (sym same) counts
    in_one_list other (inr none) = elim none [ ]

    here_only : (other : CoreProc) → Has (proc ∷ []) other → proc.threads.items ≡ body ∷ [] → (term : CoreTerm) → Has other.threads.items term → Counts term
    here_only other (inr none) bodies_are term there = elim none [ ]
    here_only other (inl same) bodies_are term there =
        let items_are : other.threads.items ≡ body ∷ [] = ap (λ (p : CoreProc). p.threads.items) same ∙ bodies_are in
        in_one_list term (subst (λ items. Has items term) items_are there)
