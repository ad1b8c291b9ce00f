-- The violations of a file: those of its threads one list after the other, and the first of them.
use Rattle.std.proofs.Common.{◌≡◌, ℕ, ◌+◌, ◌<◌, ◌⊎◌, inl, inr, arith, refl, sym, ◌∙◌, ap, subst, List, [], ◌∷◌, ◌++◌, map, zero, suc}
use Rattle.core_term.specs.declared.rules.Rule.{Rule}
use Rattle.core_term.specs.declared.rules.Rule.TheVariants.{V2, V3, V4, V5, V6, V7, V8}
use Rattle.core_term.specs.declared.rules.Violation.{Violation}
use Rattle.core_term.specs.Lists.{Has}
use Rattle.core_term.specs.Process.{Process, Thread, IsThread}
use Rattle.core_term.specs.Rules.{Claim, Holds, Demands}
use Rattle.core_term.specs.Violations.{Broken, ComesBefore, IsAscending as Rises, IsBroken, IsNth, IsViolations, rule_number}
use Rattle.demand_checks.specs.Found.{ComesEarlier, IsAscending, Fails, AreViolations}
use Rattle.demand_checks.specs.Files.{FileLists, FirstOfFile, KeepBefore, broken, AreOfThreads, AreOfFile, of_threads, of_file}
use Rattle.demand_checks.specs.Merged.{all_rules}
use Rattle.demand_checks.proofs.Listed.{has_left, has_right, has_either, mapped, in_map}

-- each rule is one of all
any_rule : (rule : Rule) → Has all_rules rule
any_rule V2 = inl refl
any_rule V3 = inr (inl refl)
any_rule V4 = inr (inr (inl refl))
any_rule V5 = inr (inr (inr (inl refl)))
any_rule V6 = inr (inr (inr (inr (inl refl))))
any_rule V7 = inr (inr (inr (inr (inr (inl refl)))))
any_rule V8 = inr (inr (inr (inr (inr (inr (inl refl))))))

rises_both : (these those : List Broken) → Rises these → Rises those → ((one other : Broken) → Has these one → Has those other → ComesBefore one other) → Rises (these ++ those)
rises_both [] those rise rises apart = rises
rises_both (first ∷ these) those rise rises apart =
    ((λ other has. elim (has_either these those other has) [ inl k ↦ rise.0 other k | inr k ↦ apart first other (inl refl) k ]), rises_both these those rise.1 rises (λ one other k l. apart one other (inr k) l))

-- the records of one thread
one_rises : (i j : ℕ) (violations : List Violation) → IsAscending violations → Rises (map (broken i j) violations)
one_rises i j [] ascending = tt
one_rises i j (first ∷ rest) ascending =
    ((λ other has. let known = mapped (broken i j) rest other has in subst (λ v. ComesBefore (broken i j first) v) (sym known.2) (inr (refl, inr (refl, ascending.0 known.0 known.1)))), one_rises i j rest ascending.1)

-- a record of the k-th thread from the number j on
record OfThread (i j : ℕ) (p : Process) (threads : List Thread) (v : Broken) : Type 0 where
  place : ℕ
  thread : Thread
  process_is : v.process ≡ i
  thread_is : v.thread ≡ j + place
  is_thread : IsThread threads place thread
  fails : Fails p v.thread thread.body v.rule v.first v.second

thread_sound : (i j : ℕ) (p : Process) (threads : List Thread) (lists : List (List Violation)) → AreOfThreads p j threads lists → (v : Broken) → Has (of_threads i j lists) v → OfThread i j p threads v
thread_sound i j p [] [] are v has = elim has [ ]
thread_sound i j p [] (one ∷ lists) are v has = elim are [ ]
thread_sound i j p (thread ∷ threads) [] are v has = elim are [ ]
thread_sound i j p (thread ∷ threads) (one ∷ lists) are v has = elim (has_either (map (broken i j) one) _ v has) [
  | inl k ↦
      (let known = mapped (broken i j) one v k in
      let fails = (are.0.sound known.0 known.1).1 in
      record {
        place = 0;
        thread = thread;
        process_is = ap (λ b. b.process) known.2;
        thread_is = ap (λ b. b.thread) known.2 ∙ omega arith;
        is_thread = refl;
        fails = subst (λ b. Fails p b.thread thread.body b.rule b.first b.second) (sym known.2) fails;
      })
  | inr k ↦
      (let known = thread_sound i (suc j) p threads lists are.1 v k in
      record { place = suc known.place; thread = known.thread; process_is = known.process_is; thread_is = (let seen = known.thread_is in omega (arith, seen)); is_thread = known.is_thread; fails = known.fails })
]

thread_whole : (i j : ℕ) (p : Process) (threads : List Thread) (lists : List (List Violation)) → AreOfThreads p j threads lists → (k : ℕ) (thread : Thread) → IsThread threads k thread
    → (n : ℕ) → n ≡ j + k → (rule : Rule) (first second : ℕ) (claim : Claim) → Demands p n thread.body rule first second claim
    → Holds p thread.body claim ⊎ Has (of_threads i j lists) (record { process = i; thread = n; rule = rule; first = first; second = second })
thread_whole i j p [] [] are k thread is n same rule first second claim demanded = elim is [ ]
thread_whole i j p [] (one ∷ lists) are k thread is n same rule first second claim demanded = elim are [ ]
thread_whole i j p (this ∷ threads) [] are k thread is n same rule first second claim demanded = elim are [ ]
thread_whole i j p (this ∷ threads) (one ∷ lists) are zero thread is n same rule first second claim demanded =
    let here : n ≡ j = omega (arith, same) in
    let own = subst (λ t. AreViolations p j t.body all_rules one) is are.0 in
    elim (own.whole rule (any_rule rule) first second claim (subst (λ m. Demands p m thread.body rule first second claim) here demanded)) [
      | inl l ↦ inl l
      | inr l ↦ inr (has_left (map (broken i j) one) _ _ (subst (λ m. Has (map (broken i j) one) (record { process = i; thread = m; rule = rule; first = first; second = second })) (sym here) (in_map (broken i j) one _ l)))
    ]
thread_whole i j p (this ∷ threads) (one ∷ lists) are (suc k) thread is n same rule first second claim demanded =
    elim (thread_whole i (suc j) p threads lists are.1 k thread is n (omega (arith, same)) rule first second claim demanded) [ inl l ↦ inl l | inr l ↦ inr (has_right (map (broken i j) one) _ _ l) ]

threads_rise : (i j : ℕ) (p : Process) (threads : List Thread) (lists : List (List Violation)) → AreOfThreads p j threads lists → Rises (of_threads i j lists)
threads_rise i j p [] [] are = tt
threads_rise i j p [] (one ∷ lists) are = elim are [ ]
threads_rise i j p (thread ∷ threads) [] are = elim are [ ]
threads_rise i j p (thread ∷ threads) (one ∷ lists) are =
    rises_both (map (broken i j) one) (of_threads i (suc j) lists) (one_rises i j one are.0.ascending) (threads_rise i (suc j) p threads lists are.1)
    (λ v w k l.
    let seen = mapped (broken i j) one v k in
    let known = thread_sound i (suc j) p threads lists are.1 w l in
    let process : v.process ≡ w.process = ap (λ b. b.process) seen.2 ∙ sym known.process_is in
    let thread_of : v.thread ≡ j = ap (λ b. b.thread) seen.2 in
    let later = known.thread_is in
    inr (process, inl (omega (arith, thread_of, later))))

-- a record of the k-th process from the number i on
record OfProcess (i : ℕ) (file : List Process) (v : Broken) : Type 0 where
  place : ℕ
  process : Process
  thread : Thread
  process_is : v.process ≡ i + place
  is_process : IsNth file place process
  is_thread : IsThread process.threads v.thread thread
  fails : Fails process v.thread thread.body v.rule v.first v.second

file_sound : (i : ℕ) (file : List Process) (lists : List (List (List Violation))) → AreOfFile file lists → (v : Broken) → Has (of_file i lists) v → OfProcess i file v
file_sound i [] [] are v has = elim has [ ]
file_sound i [] (one ∷ lists) are v has = elim are [ ]
file_sound i (p ∷ file) [] are v has = elim are [ ]
file_sound i (p ∷ file) (one ∷ lists) are v has = elim (has_either (of_threads i 0 one) _ v has) [
  | inl k ↦
      (let known = thread_sound i 0 p p.threads one are.0 v k in
      let number : v.thread ≡ known.place = (let seen = known.thread_is in omega (arith, seen)) in
      record {
        place = 0;
        process = p;
        thread = known.thread;
        process_is = (let seen = known.process_is in omega (arith, seen));
        is_process = refl;
        is_thread = subst (λ n. IsThread p.threads n known.thread) (sym number) known.is_thread;
        fails = known.fails;
      })
  | inr k ↦
      (let known = file_sound (suc i) file lists are.1 v k in
      record { place = suc known.place; process = known.process; thread = known.thread; process_is = (let seen = known.process_is in omega (arith, seen)); is_process = known.is_process; is_thread = known.is_thread; fails = known.fails })
]

file_whole : (i : ℕ) (file : List Process) (lists : List (List (List Violation))) → AreOfFile file lists → (k j : ℕ) (p : Process) (thread : Thread) → IsNth file k p → IsThread p.threads j thread
    → (n : ℕ) → n ≡ i + k → (rule : Rule) (first second : ℕ) (claim : Claim) → Demands p j thread.body rule first second claim
    → Holds p thread.body claim ⊎ Has (of_file i lists) (record { process = n; thread = j; rule = rule; first = first; second = second })
file_whole i [] [] are k j p thread nth is n same rule first second claim demanded = elim nth [ ]
file_whole i [] (one ∷ lists) are k j p thread nth is n same rule first second claim demanded = elim are [ ]
file_whole i (q ∷ file) [] are k j p thread nth is n same rule first second claim demanded = elim are [ ]
file_whole i (q ∷ file) (one ∷ lists) are zero j p thread nth is n same rule first second claim demanded =
    let here : n ≡ i = omega (arith, same) in
    let own = subst (λ r. AreOfThreads r 0 r.threads one) nth are.0 in
    elim (thread_whole i 0 p p.threads one own j thread is j (omega arith) rule first second claim demanded) [
      | inl l ↦ inl l
      | inr l ↦ inr (has_left (of_threads i 0 one) _ _ (subst (λ m. Has (of_threads i 0 one) (record { process = m; thread = j; rule = rule; first = first; second = second })) (sym here) l))
    ]
file_whole i (q ∷ file) (one ∷ lists) are (suc k) j p thread nth is n same rule first second claim demanded =
    elim (file_whole (suc i) file lists are.1 k j p thread nth is n (omega (arith, same)) rule first second claim demanded) [ inl l ↦ inl l | inr l ↦ inr (has_right (of_threads i 0 one) _ _ l) ]

file_rises : (i : ℕ) (file : List Process) (lists : List (List (List Violation))) → AreOfFile file lists → Rises (of_file i lists)
file_rises i [] [] are = tt
file_rises i [] (one ∷ lists) are = elim are [ ]
file_rises i (p ∷ file) [] are = elim are [ ]
file_rises i (p ∷ file) (one ∷ lists) are =
    rises_both (of_threads i 0 one) (of_file (suc i) lists) (threads_rise i 0 p p.threads one are.0) (file_rises (suc i) file lists are.1)
    (λ v w k l.
    let seen = (thread_sound i 0 p p.threads one are.0 v k).process_is in
    let known = (file_sound (suc i) file lists are.1 w l).process_is in
    inl (omega (arith, seen, known)))

pub listed : FileLists
listed file lists are = record {
  sound = λ v has.
      let known = file_sound 0 file lists are v has in
      let number : v.process ≡ known.place = (let seen = known.process_is in omega (arith, seen)) in
      record {
        process = known.process;
        is_process = subst (λ n. IsNth file n known.process) (sym number) known.is_process;
        thread = known.thread;
        is_thread = known.is_thread;
        claim = known.fails.claim;
        demanded = known.fails.demanded;
        fails = known.fails.fails;
      };
  whole = λ i j p thread nth is rule first second claim demanded. file_whole 0 file lists are i j p thread nth is i (omega arith) rule first second claim demanded;
  ascending = file_rises 0 file lists are;
}

-- The first of all.

nth_one : (file : List Process) (i : ℕ) (p q : Process) → IsNth file i p → IsNth file i q → p ≡ q
nth_one [] i p q is at = elim is [ ]
nth_one (first ∷ file) zero p q is at = sym is ∙ at
nth_one (first ∷ file) (suc i) p q is at = nth_one file i p q is at

thread_one : (threads : List Thread) (j : ℕ) (one other : Thread) → IsThread threads j one → IsThread threads j other → one ≡ other
thread_one [] j one other is at = elim is [ ]
thread_one (first ∷ threads) zero one other is at = sym is ∙ at
thread_one (first ∷ threads) (suc j) one other is at = thread_one threads j one other is at

not_both : (one other : Violation) → ComesEarlier one other → ComesEarlier other one → ⊥
not_both one other (inl k) (inl l) = omega (arith, k, l)
not_both one other (inl k) (inr l) = let known = ap rule_number l.0 in omega (arith, k, known)
not_both one other (inr k) (inl l) = let known = ap rule_number k.0 in omega (arith, l, known)
not_both one other (inr k) (inr l) = sites k.1 l.1
  where
    sites : (one.first < other.first) ⊎ ((one.first ≡ other.first) × (one.second < other.second)) → (other.first < one.first) ⊎ ((other.first ≡ one.first) × (other.second < one.second)) → ⊥
    sites (inl m) (inl n) = omega (arith, m, n)
    sites (inl m) (inr n) = omega (arith, m, n.0)
    sites (inr m) (inl n) = omega (arith, m.0, n)
    sites (inr m) (inr n) = omega (arith, m.1, n.1)

abbrev violation_of : Broken → Violation
violation_of v = record { rule = v.rule; first = v.first; second = v.second }

module _ (file : List Process) (i j : ℕ) (p : Process) (thread : Thread) (nth : IsNth file i p) (is : IsThread p.threads j thread) (keep : KeepBefore file i p j)
    (first : Violation) (rest : List Violation) (are : AreViolations p j thread.body all_rules (first ∷ rest)) where
  -- no record of the thread comes before its first
  own_first : (v : Violation) → ComesEarlier v first → (claim : Claim) → Demands p j thread.body v.rule v.first v.second claim → (Holds p thread.body claim → ⊥) → ⊥
  own_first v earlier claim demanded fails = elim (are.whole v.rule (any_rule v.rule) v.first v.second claim demanded) [
    | inl holds ↦ fails holds
    | inr (inl same) ↦ (let itself = subst (λ w. ComesEarlier w first) same earlier in not_both first first itself itself)
    | inr (inr later) ↦ not_both v first earlier (are.ascending.0 v later)
  ]

  none_before : (v : Broken) → IsBroken file v → ComesBefore v (broken i j first) → ⊥
  none_before v found before = go before
    where
      in_process : v.process ≡ i → found.process ≡ p
      in_process same = nth_one file i found.process p (subst (λ n. IsNth file n found.process) same found.is_process) nth

      by_thread : v.process ≡ i → v.thread < j → ⊥
      by_thread same less =
          let at = subst (λ q. IsThread q.threads v.thread found.thread) (in_process same) found.is_thread in
          let fails = subst (λ q. Holds q found.thread.body found.claim → ⊥) (in_process same) found.fails in
          fails (keep.1 v.thread found.thread less at v.rule v.first v.second found.claim (subst (λ q. Demands q v.thread found.thread.body v.rule v.first v.second found.claim) (in_process same) found.demanded))

      by_rule : v.process ≡ i → v.thread ≡ j → ComesEarlier (violation_of v) first → ⊥
      by_rule same number earlier =
          let at = subst (λ n. IsThread p.threads n found.thread) number (subst (λ q. IsThread q.threads v.thread found.thread) (in_process same) found.is_thread) in
          let same_thread = thread_one p.threads j found.thread thread at is in
          let demanded = subst (λ t. Demands p j t.body v.rule v.first v.second found.claim) same_thread
          (subst (λ n. Demands p n found.thread.body v.rule v.first v.second found.claim) number
          (subst (λ q. Demands q v.thread found.thread.body v.rule v.first v.second found.claim) (in_process same) found.demanded)) in
          let fails = subst (λ t. Holds p t.body found.claim → ⊥) same_thread (subst (λ q. Holds q found.thread.body found.claim → ⊥) (in_process same) found.fails) in
          own_first (violation_of v) earlier found.claim demanded fails

      go : ComesBefore v (broken i j first) → ⊥
      go (inl less) = found.fails (keep.0 v.process found.process less found.is_process v.thread found.thread found.is_thread v.rule v.first v.second found.claim found.demanded)
      go (inr k) = elim k.1 [ inl less ↦ by_thread k.0 less | inr l ↦ by_rule k.0 l.0 l.1 ]

  there : (violations : List Broken) → IsViolations file violations → Has violations (broken i j first)
  there violations all =
      let own = (are.sound first (inl refl)).1 in
      elim (all.whole i j p thread nth is first.rule first.first first.second own.claim own.demanded) [ inl holds ↦ absurd (own.fails holds) | inr has ↦ has ]

  head_is : (violations : List Broken) → IsViolations file violations → Has violations (broken i j first) → (others : List Broken) × (violations ≡ broken i j first ∷ others)
  head_is [] all has = elim has [ ]
  head_is (head ∷ others) all (inl same) = (others, ap (λ h. h ∷ others) (sym same))
  head_is (head ∷ others) all (inr later) = absurd (none_before head (all.sound head (inl refl)) (all.ascending.0 (broken i j first) later))

pub first_of : FirstOfFile
first_of file i j p thread nth is keep first rest are violations all =
    head_is file i j p thread nth is keep first rest are violations all (there file i j p thread nth is keep first rest are violations all)
