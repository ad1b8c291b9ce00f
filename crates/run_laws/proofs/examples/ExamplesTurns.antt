-- Demands on two turns and on two threads, and on the side of an `if`, on small processes. Each source stands above its body.
use Rattle.std.proofs.Common.{◌≡◌, ℕ, ◌+◌, inl, inr, arith, refl, sym, ◌∙◌, Bool, true, false, [], ◌∷◌}
use Rattle.std.proofs.lemmas.Int.{ints}
use Rattle.std.specs.Prelude.{pos, codes}
use Rattle.order_rules.specs.Before.{by_same, by_side, by_sync}
use Rattle.order_rules.specs.Before as order
use Rattle.order_rules.specs.Last as last
use Rattle.core_term.specs.declared.operators.BinOp.TheVariants.{Add}
use Rattle.core_term.specs.declared.rules.Rule.TheVariants.{V2, V4, V5, V6, V7, V8}
use Rattle.core_term.specs.Term.{Term, Lit, Var, Reg, Bin, One, Then, Both, Cycle, Set, Send, Recv, If, Block, Pure}
use Rattle.core_term.specs.Stands.{here, in_then, after_then, after_both, in_block}
use Rattle.core_term.specs.Process.{Cycles, Until, Process, Thread}
use Rattle.core_term.specs.Points.{Spot, Begin, End, TermBegin, TermEnd, NoSide}
use Rattle.core_term.specs.Order.{Point, point, spot_site, Exclusive}
use Rattle.core_term.specs.Rules as rules
use Rattle.core_term.specs.Rules.{Claim, Order, Either, Holds, Demands, begin_of, end_of, next_begin_of, next_end_of}
use Rattle.run_laws.proofs.examples.ExampleProcesses.{port, register}
use Rattle.run_laws.proofs.examples.ExampleTimes.{Time, Lost, At, unreached, stage, times, refuted, refuted_last, all_together}
use Rattle.run_laws.proofs.examples.ExamplesRules.{process, lasts, by_count, no_act}

-- The send of the next turn comes within the life of three cycles, which two turns show and one does not:
-- chan cm { right m : (logic[8]@#3) }, loop { set r := *r + 8'd1 >> send p.m(*r) >> cycle 1 }
abbrev quick : ℕ → Term
quick n = Then (Set 0 0 (Bin Add 8 8 (Reg 0) (Lit 8 1))) (Then (Send 1 0 (Reg 0)) (One (Cycle 2 n)))

abbrev quick_process : ℕ → Process
quick_process n = process (port (codes "p") (codes "m") false 8 (Cycles 3) ∷ []) (register (codes "r") 8 ∷ []) (quick n) 3

quick_demand : Demands (quick_process 1) 0 (quick 1) V5 1 1 (rules.Last 1 0 (pos 1) (next_begin_of 1))
quick_demand = rules.sends_next 1 1 0 (_, Then (Send 1 0 (Reg 0)) (One (Cycle 2 1)), after_then here, refl, refl) (_, Then (Send 1 0 (Reg 0)) (One (Cycle 2 1)), after_then here, refl, refl)

abbrev quick_times : Point → Time
quick_times = times (stage 0 0 1 2 ∷ stage 1 1 1 2 ∷ stage 1 1 2 2 ∷ []) 2

quick_fails : Holds (quick_process 1) (quick 1) (rules.Last 1 0 (pos 1) (next_begin_of 1)) → ⊥
quick_fails k =
    refuted_last (quick 1) quick_times refl (all_together (quick 1) quick_times refl) (Cycles 3 ∷ []) 1 (next_begin_of 1) (pos 1) 1 3 3 refl refl
    (lasts 3 (omega arith)) (by_count 3 3 1 refl) (λ m w u c i a e o l. no_act 3 m i) (omega arith) (omega (arith, ints)) (omega (arith, ints)) k

-- with `cycle 3` it comes in the cycle after the life
slow_demand : Demands (quick_process 3) 0 (quick 3) V5 1 1 (rules.Last 1 0 (pos 1) (next_begin_of 1))
slow_demand = rules.sends_next 1 1 0 (_, Then (Send 1 0 (Reg 0)) (One (Cycle 2 3)), after_then here, refl, refl) (_, Then (Send 1 0 (Reg 0)) (One (Cycle 2 3)), after_then here, refl, refl)

slow_holds : Holds (quick_process 3) (quick 3) (rules.Last 1 0 (pos 1) (next_begin_of 1))
slow_holds =
    last.within 2 (inl refl)
    (order.later {c = point true (TermBegin 1)} (inl (refl, inr (inr (inr (inr (inl refl)))))) by_same
    (order.later {c = next_end_of 0} (inl (refl, inr (inl refl))) by_same
    (order.after {c = next_begin_of 0} (refl, inr (inr (inr (inl refl))))
    (order.later {c = point true (TermBegin 0)} (inl (refl, inl refl)) by_same
    (order.later {c = point false (TermEnd 0)} (inr (refl, refl, refl, refl)) by_same
    (order.later {c = point false (TermEnd 1)} (inl (refl, inr (inr (inl refl)))) by_same
    (order.later {c = point false (TermEnd 2)} (inl (refl, inr (inr (inr (inr (inr (inr (inl refl)))))))) by_same
    (order.later {c = end_of 2} (inl (refl, inr (inr (inr (inr (inr (inr (inr (inr (inr (inl refl))))))))))) by_same
    (order.after {c = begin_of 2} (refl, inr (inr (inr (inr (inr (inr (inr (inr (inr (inr (inl refl)))))))))))
    (order.later {c = point false (TermBegin 2)} (inl (refl, inr (inr (inr (inr (inr (inr (inr (inr (inl refl)))))))))) by_same
    (order.later {c = end_of 1} (inl (refl, inr (inr (inr (inr (inr (inl refl))))))) by_same (order.here (omega (arith, ints))))))))))))))

-- The ending exchange may fall in the cycle in which the value is made:
-- chan ch { left req : (logic[8]@res), right res : (logic[8]@#1) }, loop { send p.res(*r) >> let x = recv p.req >> cycle 1 >> set r := x }
abbrev late_set : Term
late_set = Then (Send 0 1 (Reg 0)) (Then (Recv 1 0) (Then (Cycle 2 1) (One (Set 3 0 (Var 1)))))

abbrev answer_first : Term → ℕ → Process
answer_first = process (port (codes "p") (codes "req") true 8 (Until 1) ∷ port (codes "p") (codes "res") false 8 (Cycles 1) ∷ []) (register (codes "r") 8 ∷ [])

abbrev use_claim : ℕ → Claim
use_claim u = Either (Order (begin_of u) (pos 0) (end_of 1)) (rules.Both (Either (Order (end_of 0) (pos 1) (end_of 1)) (Order (begin_of u) (pos 0) (end_of 0))) (Order (begin_of u) (pos 0) (next_end_of 0)))

late_set_demand : Demands (answer_first late_set 4) 0 late_set V6 3 1 (use_claim 3)
late_set_demand =
    rules.wire_until (One (Set 3 0 (Var 1))) 1 0 1 0 (record { scope = Cycle 2 1 ∷ Recv 1 0 ∷ Send 0 1 (Reg 0) ∷ []; stands = after_then (after_then (after_then here)); value = Var 1; uses = refl; has = inl refl })
    (Send 0 1 (Reg 0) ∷ [], Then (Recv 1 0) (Then (Cycle 2 1) (One (Set 3 0 (Var 1)))), after_then here, refl, refl) (inl refl) ([], late_set, here, refl, refl)

abbrev late_set_times : Point → Time
late_set_times = times (stage 0 0 0 2 ∷ stage 0 0 0 2 ∷ stage 0 0 1 2 ∷ stage 1 1 2 2 ∷ []) 2

late_set_fails : Holds (answer_first late_set 4) late_set (use_claim 3) → ⊥
late_set_fails (inl k) = refuted late_set late_set_times refl (all_together late_set late_set_times refl) (begin_of 3) (end_of 1) (pos 0) 1 0 refl refl (omega (arith, ints)) (omega (arith, ints)) k
late_set_fails (inr (inl k, l)) = refuted late_set late_set_times refl (all_together late_set late_set_times refl) (end_of 0) (end_of 1) (pos 1) 0 0 refl refl (omega (arith, ints)) (omega (arith, ints)) k
late_set_fails (inr (inr k, l)) = refuted late_set late_set_times refl (all_together late_set late_set_times refl) (begin_of 3) (end_of 0) (pos 0) 1 0 refl refl (omega (arith, ints)) (omega (arith, ints)) k

-- without `cycle 1` the value is used in the cycle in which it is made
abbrev prompt_set : Term
prompt_set = Then (Send 0 1 (Reg 0)) (Then (Recv 1 0) (One (Set 2 0 (Var 1))))

prompt_set_demand : Demands (answer_first prompt_set 3) 0 prompt_set V6 2 1 (use_claim 2)
prompt_set_demand =
    rules.wire_until (One (Set 2 0 (Var 1))) 1 0 1 0 (record { scope = Recv 1 0 ∷ Send 0 1 (Reg 0) ∷ []; stands = after_then (after_then here); value = Var 1; uses = refl; has = inl refl })
    (Send 0 1 (Reg 0) ∷ [], Then (Recv 1 0) (One (Set 2 0 (Var 1))), after_then here, refl, refl) (inl refl) ([], prompt_set, here, refl, refl)

prompt_set_holds : Holds (answer_first prompt_set 3) prompt_set (use_claim 2)
prompt_set_holds =
    inl (order.from_same {c = point false (TermBegin 2)} (inl (refl, inr (inr (inr (inr (inr (inr (inr (inr (inl refl)))))))))) by_same
    (order.from_same {c = end_of 1} (inl (refl, inr (inr (inr (inr (inr (inl refl))))))) by_same (order.here (omega (arith, ints)))))

-- A register is read in one thread and sent for longer than a cycle, and another thread sets it:
-- chan c1 { right m : (logic[8]@#1) }, loop { send p.m( *a) >> cycle 1 } loop { set a := *a + 8'd1 }
abbrev send_register : Term
send_register = Then (Send 0 0 (Reg 0)) (One (Cycle 1 1))

abbrev setter : Thread
setter = record { body = One (Set 0 0 (Bin Add 8 8 (Reg 0) (Lit 8 1))); count = 1 }

abbrev shared_register : Process
shared_register = record {
  name = codes "w";
  ports = port (codes "p") (codes "m") false 8 (Cycles 1) ∷ [];
  registers = register (codes "a") 8 ∷ [];
  threads = record { body = send_register; count = 2 } ∷ setter ∷ [];
}

shared_demand : Demands shared_register 0 send_register V7 0 0 (rules.Last 0 0 (pos 0) (begin_of 0))
shared_demand =
    rules.set_elsewhere send_register 0 0 1 0 setter (record { scope = []; stands = here; value = Reg 0; uses = refl; has = inl refl }) refl (λ k. let equal : 1 ≡ 0 = k in one_is_not equal) ([], One (Set 0 0 (Bin Add 8 8 (Reg 0) (Lit 8 1))), here, refl, refl)
  where
    one_is_not : {n : ℕ} → n + 1 ≡ n → ⊥
    one_is_not k = omega arith

abbrev shared_times : Point → Time
shared_times = times (stage 0 0 1 2 ∷ stage 1 1 2 2 ∷ []) 2

shared_fails : Holds shared_register send_register (rules.Last 0 0 (pos 0) (begin_of 0)) → ⊥
shared_fails k =
    refuted_last send_register shared_times refl (all_together send_register shared_times refl) (Cycles 1 ∷ []) 0 (begin_of 0) (pos 0) 1 1 0 refl refl
    (lasts 1 (omega arith)) (by_count 1 1 1 refl) (λ m w u c i a e o l. no_act 1 m i) (omega arith) (omega (arith, ints)) (omega (arith, ints)) k

-- with a register of its own the thread uses the shared one in the cycle in which it reads it:
-- loop { set b := *a >> send p.m( *b) >> cycle 1 } loop { set a := *a + 8'd1 }
abbrev own_register : Term
own_register = Then (Set 0 1 (Reg 0)) (Then (Send 1 0 (Reg 1)) (One (Cycle 2 1)))

abbrev copied_register : Process
copied_register = record {
  name = codes "w";
  ports = port (codes "p") (codes "m") false 8 (Cycles 1) ∷ [];
  registers = register (codes "a") 8 ∷ register (codes "b") 8 ∷ [];
  threads = record { body = own_register; count = 3 } ∷ setter ∷ [];
}

copied_holds : Holds copied_register own_register (Order (begin_of 0) (pos 0) (begin_of 0))
copied_holds = order.here (omega (arith, ints))

-- The `if` decides again two cycles after the exchange, while the life has three:
-- chan cm { right m : (logic[8]@#3) }, loop { let v = if *c { 8'd1 } else { 8'd2 } >> cycle 1 >> send p.m(v) >> cycle 2 }
abbrev held_side : Term
held_side = Then (If 0 (Reg 0) (One (Pure 1 (Lit 8 1))) (One (Pure 2 (Lit 8 2))) true) (Then (Cycle 3 1) (Then (Send 4 0 (Var 0)) (One (Cycle 5 2))))

abbrev held_side_process : Process
held_side_process = process (port (codes "p") (codes "m") false 8 (Cycles 3) ∷ []) (register (codes "c") 1 ∷ []) held_side 6

held_side_demand : Demands held_side_process 0 held_side V8 4 0 (rules.Last 4 0 (pos 1) (next_begin_of 0))
held_side_demand =
    rules.choice (Then (Send 4 0 (Var 0)) (One (Cycle 5 2))) 0
    (record { scope = Cycle 3 1 ∷ If 0 (Reg 0) (One (Pure 1 (Lit 8 1))) (One (Pure 2 (Lit 8 2))) true ∷ []; stands = after_then (after_then here); value = Var 0; uses = refl; has = inl refl })

-- the first side is taken
abbrev held_side_times : Point → Time
held_side_times = times (stage 0 0 0 3 ∷ stage 0 0 0 0 ∷ unreached ∷ stage 0 0 1 3 ∷ stage 1 1 1 3 ∷ stage 1 1 3 3 ∷ []) 3

other_side : (a : Point) → spot_site a.spot ≡ 2 → held_side_times a ≡ Lost
other_side a k = go a.late a.spot k
  where
    go : (late : Bool) (b : Spot) → spot_site b ≡ 2 → held_side_times (point late b) ≡ Lost
    go false (TermBegin p) e = rw e refl
    go false (TermEnd p) e = rw e refl
    go false (Begin p) e = rw e refl
    go false (End p) e = rw e refl
    go false (NoSide p) e = refl
    go true (TermBegin p) e = rw e refl
    go true (TermEnd p) e = rw e refl
    go true (Begin p) e = rw e refl
    go true (End p) e = rw e refl
    go true (NoSide p) e = refl

held_side_apart : (a b : Point) → Exclusive held_side a b → (t : ℕ) → held_side_times b ≡ At t → held_side_times a ≡ Lost
held_side_apart a b (e, inl (inl (inl (k, l)))) t o = let equal : spot_site b.spot ≡ 2 = omega (arith, l.0, l.1) in let next_equal : Lost ≡ At t = sym (other_side b equal) ∙ o in absurd cc
held_side_apart a b (e, inl (inl (inr (k, l)))) t o = other_side a (omega (arith, k.0, k.1))
held_side_apart a b (e, inl (inr (inl k))) t o = elim k [ ]
held_side_apart a b (e, inl (inr (inr k))) t o = elim k [ ]
held_side_apart a b (e, inr (inl k)) t o = elim k [ ]
held_side_apart a b (e, inr (inr (inl k))) t o = elim k [ ]
held_side_apart a b (e, inr (inr (inr k))) t o = elim k [ ]

held_side_fails : Holds held_side_process held_side (rules.Last 4 0 (pos 1) (next_begin_of 0)) → ⊥
held_side_fails k =
    refuted_last held_side held_side_times refl held_side_apart (Cycles 3 ∷ []) 4 (next_begin_of 0) (pos 1) 1 3 3 refl refl
    (lasts 3 (omega arith)) (by_count 3 3 1 refl) (λ m w u c i a e o l. no_act 3 m i) (omega arith) (omega (arith, ints)) (omega (arith, ints)) k

-- The variable may be read before it is made: loop { { let x = recv p.req ; set r := x } >> send p.res( *r) >> cycle 1 }
abbrev early_read : Term
early_read = Then (Block 0 (Both (Recv 1 0) (One (Set 2 0 (Var 1))))) (Then (Send 3 1 (Reg 0)) (One (Cycle 4 1)))

early_read_demand : Demands (answer_first early_read 5) 0 early_read V2 2 1 (Order (end_of 1) (pos 0) (begin_of 2))
early_read_demand = rules.made (Recv 1 0 ∷ []) (One (Set 2 0 (Var 1))) 1 (in_then (in_block (after_both here))) refl

abbrev early_read_times : Point → Time
early_read_times = times (stage 0 0 1 2 ∷ stage 0 0 1 1 ∷ stage 0 0 1 1 ∷ stage 1 1 1 2 ∷ stage 1 1 2 2 ∷ []) 2

early_read_fails : Holds (answer_first early_read 5) early_read (Order (end_of 1) (pos 0) (begin_of 2)) → ⊥
early_read_fails k = refuted early_read early_read_times refl (all_together early_read early_read_times refl) (end_of 1) (begin_of 2) (pos 0) 1 0 refl refl (omega (arith, ints)) (omega (arith, ints)) k

-- Both receives would take one exchange: loop { recv p.req >> recv p.req >> cycle 1 }
abbrev two_receives : Term
two_receives = Then (Recv 0 0) (Then (Recv 1 0) (One (Cycle 2 1)))

abbrev receives_claim : Claim
receives_claim = Either (Order (end_of 0) (pos 1) (begin_of 1)) (Order (end_of 1) (pos 1) (begin_of 0))

two_receives_demand : Demands (answer_first two_receives 3) 0 two_receives V4 0 1 receives_claim
two_receives_demand = rules.receives 0 1 0 ([], two_receives, here, refl, refl) (_, Then (Recv 1 0) (One (Cycle 2 1)), after_then here, refl, refl) (omega arith)

abbrev two_receives_times : Point → Time
two_receives_times = times (stage 0 0 0 1 ∷ stage 0 0 0 1 ∷ stage 0 0 1 1 ∷ []) 1

two_receives_fail : Holds (answer_first two_receives 3) two_receives receives_claim → ⊥
two_receives_fail (inl k) = refuted two_receives two_receives_times refl (all_together two_receives two_receives_times refl) (end_of 0) (begin_of 1) (pos 1) 0 0 refl refl (omega (arith, ints)) (omega (arith, ints)) k
two_receives_fail (inr k) = refuted two_receives two_receives_times refl (all_together two_receives two_receives_times refl) (end_of 1) (begin_of 0) (pos 1) 0 0 refl refl (omega (arith, ints)) (omega (arith, ints)) k
