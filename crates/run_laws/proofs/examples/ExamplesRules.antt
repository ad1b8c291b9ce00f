-- Demands of the timing rules on small processes: one that fails in each process that is to be refused, and the like one that
-- holds in a process that is to be accepted. Each source stands above its body.
--
-- That a claim fails is shown by times that obey all forms: what they are is a run of the thread in which the rule is broken.
use Rattle.std.proofs.Common.{◌≡◌, ℕ, ◌+◌, ◌<◌, ◌≤◌, ◌⊎◌, inl, inr, arith, refl, true, false, List, [], ◌∷◌}
use Rattle.std.proofs.lemmas.Int.{ints}
use Rattle.std.specs.Prelude.{pos, ◌-ℤ◌, codes}
use Rattle.order_rules.specs.Before.{by_same, by_side, by_sync, by_first, by_second}
use Rattle.order_rules.specs.Before as order
use Rattle.order_rules.specs.Last as last
use Rattle.core_term.specs.declared.rules.Rule.TheVariants.{V3, V6}
use Rattle.core_term.specs.Term.{Term, Lit, Var, Reg, One, Then, Both, Cycle, Set, Send, Recv, If}
use Rattle.core_term.specs.Stands.{here, in_one, in_then, after_then, in_both, after_both}
use Rattle.core_term.specs.Stands as stands
use Rattle.core_term.specs.Process.{Cycles, Until, Port, Register, Process}
use Rattle.core_term.specs.Points.{TermBegin, TermEnd}
use Rattle.core_term.specs.Order.{Point, point}
use Rattle.core_term.specs.Sources.{WireOf}
use Rattle.core_term.specs.Rules as rules
use Rattle.core_term.specs.Rules.{Claim, Order, Either, Holds, Demands, begin_of, end_of, next_begin_of, next_end_of}
use Rattle.run_laws.proofs.examples.ExampleProcesses.{port, register, echo}
use Rattle.run_laws.proofs.examples.ExampleTimes.{Time, stage, times, refuted, refuted_last, all_together}

-- a process of these ports and registers, and one thread
abbrev pub process : List Port → List Register → Term → ℕ → Process
process ports registers body count = record { name = codes "p"; ports = ports; registers = registers; threads = record { body = body; count = count } ∷ [] }

-- Both sets begin together: loop { set a := 8'd1 ; set a := 8'd2 }
abbrev two_sets : Term
two_sets = Both (Set 0 0 (Lit 8 1)) (One (Set 1 0 (Lit 8 2)))

abbrev two_sets_process : Process
two_sets_process = process [] (register (codes "a") 8 ∷ []) two_sets 2

abbrev two_sets_claim : Claim
two_sets_claim = Either (Order (end_of 0) (pos 0) (begin_of 1)) (Order (end_of 1) (pos 0) (begin_of 0))

two_sets_demand : Demands two_sets_process 0 two_sets V3 0 1 two_sets_claim
two_sets_demand = rules.sets 0 1 0 ([], two_sets, here, refl, refl) (_, One (Set 1 0 (Lit 8 2)), after_both here, refl, refl) (omega arith)

abbrev two_sets_times : Point → Time
two_sets_times = times (stage 0 0 1 1 ∷ stage 0 0 1 1 ∷ []) 1

two_sets_fail : Holds two_sets_process two_sets two_sets_claim → ⊥
two_sets_fail (inl k) = refuted two_sets two_sets_times refl (all_together two_sets two_sets_times refl) (end_of 0) (begin_of 1) (pos 0) 1 0 refl refl (omega (arith, ints)) (omega (arith, ints)) k
two_sets_fail (inr k) = refuted two_sets two_sets_times refl (all_together two_sets two_sets_times refl) (end_of 1) (begin_of 0) (pos 0) 1 0 refl refl (omega (arith, ints)) (omega (arith, ints)) k

-- On the two sides of one `if` they are apart: loop { if *c { set a := 8'd1 } else { set a := 8'd2 } }
abbrev either_set : Term
either_set = One (If 0 (Reg 1) (One (Set 1 0 (Lit 8 1))) (One (Set 2 0 (Lit 8 2))) false)

abbrev either_set_process : Process
either_set_process = process [] (register (codes "a") 8 ∷ register (codes "c") 1 ∷ []) either_set 3

either_set_demand : Demands either_set_process 0 either_set V3 1 2 (Either (Order (end_of 1) (pos 0) (begin_of 2)) (Order (end_of 2) (pos 0) (begin_of 1)))
either_set_demand = rules.sets 1 2 0 ([], One (Set 1 0 (Lit 8 1)), in_one (stands.in_yes here), refl, refl) ([], One (Set 2 0 (Lit 8 2)), in_one (stands.in_no here), refl, refl) (omega arith)

either_set_holds : Holds either_set_process either_set (Either (Order (end_of 1) (pos 0) (begin_of 2)) (Order (end_of 2) (pos 0) (begin_of 1)))
either_set_holds = inl (order.exclusive (refl, inl (inl ((omega arith, omega arith), (omega arith, omega arith)))))

-- The send may wait for ever, and one cycle is promised:
-- chan ch { left req : (logic[8]@#1), right res : (logic[8]@#1) }, loop { let x = recv p.req >> send p.res(x) >> cycle 1 }
abbrev answer : Term
answer = Then (Recv 0 0) (Then (Send 1 1 (Var 0)) (One (Cycle 2 1)))

abbrev short_promise : Process
short_promise = process (port (codes "p") (codes "req") true 8 (Cycles 1) ∷ port (codes "p") (codes "res") false 8 (Cycles 1) ∷ []) [] answer 3

abbrev answer_use : Term
answer_use = Then (Send 1 1 (Var 0)) (One (Cycle 2 1))

answer_rests : rules.RestsOn answer answer_use (WireOf 0)
answer_rests = record { scope = Recv 0 0 ∷ []; stands = after_then here; value = Var 0; uses = refl; has = inl refl }

short_promise_demand : Demands short_promise 0 answer V6 1 0 (rules.Last 1 1 (pos 1 -ℤ pos 1) (end_of 0))
short_promise_demand = rules.wire_within answer_use 0 0 1 answer_rests ([], answer, here, refl, refl) (inl refl)

abbrev answer_times : Point → Time
answer_times = times (stage 0 0 0 2 ∷ stage 0 0 1 2 ∷ stage 1 1 2 2 ∷ []) 2

-- of a life with the one end `#k`
pub by_count : (k final s : ℕ) → final + 1 ≡ s + k → (n : ℕ) → Cycles (n + 1) ≡ Cycles k ⊎ ⊥ → final ≤ s + n
by_count k final s e n (inl i) = let equal : n + 1 ≡ k = cc in omega arith
by_count k final s e n (inr i) = absurd i

pub lasts : (k : ℕ) → 0 < k → (Cycles 0 ≡ Cycles k) ⊎ ⊥ → ⊥
lasts k l (inl i) = let next_equal : 0 ≡ k = cc in omega arith
lasts k l (inr i) = absurd i

pub no_act : {A : Type 0} (k m : ℕ) → (Until m ≡ Cycles k) ⊎ ⊥ → A
no_act k m (inl i) = absurd cc
no_act k m (inr i) = absurd i

short_promise_fails : Holds short_promise answer (rules.Last 1 1 (pos 1 -ℤ pos 1) (end_of 0)) → ⊥
short_promise_fails k =
    refuted_last answer answer_times refl (all_together answer answer_times refl) (Cycles 1 ∷ []) 1 (end_of 0) (pos 1 -ℤ pos 1) 1 1 0 refl refl
    (lasts 1 (omega arith)) (by_count 1 1 1 refl) (λ m w u c i a e o l. no_act 1 m i) (omega arith) (omega (arith, ints)) (omega (arith, ints)) k

-- The value is promised until the answer is taken: the same with req : (logic[8]@res)
abbrev echo_claim : Claim
echo_claim = Either (rules.Last 1 1 (pos 0) (end_of 0)) (rules.Both (Either (Order (end_of 1) (pos 1) (end_of 0)) (rules.Last 1 1 (pos 0) (end_of 1))) (rules.Last 1 1 (pos 0) (next_end_of 1)))

echo_demand : Demands echo 0 answer V6 1 0 echo_claim
echo_demand = rules.wire_until answer_use 0 0 1 1 answer_rests ([], answer, here, refl, refl) (inl refl) (Recv 0 0 ∷ [], answer_use, after_then here, refl, refl)

-- the end of the send in the next turn comes after its end in this one
echo_next : Holds echo answer (rules.Last 1 1 (pos 0) (next_end_of 1))
echo_next =
    last.within 0 (inl refl)
    (order.later {c = next_begin_of 1} (refl, inr (inr (inr (inr (inr (inr (inr (inl refl)))))))) by_sync
    (order.later {c = point true (TermBegin 1)} (inl (refl, inr (inr (inr (inr (inl refl)))))) by_same
    (order.later {c = next_end_of 0} (inl (refl, inr (inl refl))) by_same
    (order.later {c = next_begin_of 0} (refl, inr (inr (inr (inl refl)))) by_sync
    (order.later {c = point true (TermBegin 0)} (inl (refl, inl refl)) by_same
    (order.later {c = point false (TermEnd 0)} (inr (refl, refl, refl, refl)) by_same
    (order.later {c = point false (TermEnd 1)} (inl (refl, inr (inr (inl refl)))) by_same
    (order.later {c = point false (TermEnd 2)} (inl (refl, inr (inr (inr (inr (inr (inr (inl refl)))))))) by_same
    (order.later {c = end_of 2} (inl (refl, inr (inr (inr (inr (inr (inr (inr (inr (inr (inl refl))))))))))) by_same
    (order.after {c = begin_of 2} (refl, inr (inr (inr (inr (inr (inr (inr (inr (inr (inr (inl refl)))))))))))
    (order.later {c = point false (TermBegin 2)} (inl (refl, inr (inr (inr (inr (inr (inr (inr (inr (inl refl)))))))))) by_same
    (order.later {c = end_of 1} (inl (refl, inr (inr (inr (inr (inr (inl refl))))))) by_same (order.here (omega (arith, ints)))))))))))))))

echo_holds : Holds echo answer echo_claim
echo_holds = inr (inr (last.within 0 (inl refl) (order.here (omega (arith, ints)))), echo_next)
