-- Each node by itself: its pulse is right where those of its predecessors are, and its pending bit goes on being right.
--
-- The timeline says when a node of each form occurs, and the equation of its net says the same of the pulses of its predecessors,
-- so each case reads the one off the other. A wait occurs where its begin occurs now or has occurred before, and its wire is 1;
-- its bit is set where the wire is not.
use Rattle.std.proofs.Common.{◌≡◌, ℕ, ◌+◌, ◌<◌, ◌≤◌, ◌⊎◌, inl, inr, ◌↔◌, arith, refl, true, false, zero, suc}
use Rattle.std.proofs.lemmas.Bool.{cases_lt}
use Rattle.order_rules.specs.Form.{Form, Start, Same, Sync, Side, Merge}
use Rattle.turn_pulses.specs.TurnGraph.{TurnGraph}
use Rattle.turn_pulses.specs.PulseMachine.{Seen, PulseMachine, IsPulseMachine, turn_begins, pulse_of, next_bit, next_counter}
use Rattle.turn_pulses.specs.Timeline.{IsTimeline, OccursAs}
use Rattle.turn_pulses.proofs.Reflects.{Reflects, holds, same_bit, same_fact, reflects_or, reflects_and, reflects_not, reflects_itself, off}
use Rattle.turn_pulses.proofs.Occurrences.{OccursIn, PulseIsRight, Pending, RegistersAreRight}

module _ (graph : TurnGraph) (seen : Seen) (count : ℕ) (Begins : ℕ → ℕ → Type 0) (Occurs : ℕ → ℕ → ℕ → Type 0) (timeline : IsTimeline graph seen count Begins Occurs) (machine : PulseMachine) (machine_is : IsPulseMachine graph seen machine) where
  -- the clauses at a node whose form is known
  pub occurs_as : (turn node cycle : ℕ) → graph.live node ≡ true → cycle < count → (form : Form ℕ) → graph.form node ≡ form → Occurs turn node cycle ↔ OccursAs seen Begins Occurs turn node cycle form
  occurs_as turn node cycle live within form form_is = rw form_is at (timeline.occurs turn node cycle live within)

  pub pulse_as : (cycle node : ℕ) → graph.live node ≡ true → (form : Form ℕ) → graph.form node ≡ form → machine.pulse cycle node ≡ pulse_of graph seen machine cycle node form
  pulse_as cycle node live form form_is = rw form_is at (machine_is.pulses cycle node live)

  pub bit_as : (cycle node : ℕ) → graph.live node ≡ true → (form : Form ℕ) → graph.form node ≡ form → machine.bit (cycle + 1) node ≡ next_bit graph seen machine cycle node form
  bit_as cycle node live form form_is = rw form_is at (machine_is.bits cycle node live)

  pub counter_as : (cycle node : ℕ) → graph.live node ≡ true → (form : Form ℕ) → graph.form node ≡ form → machine.counter (cycle + 1) node ≡ next_counter machine cycle node form
  counter_as cycle node live form form_is = rw form_is at (machine_is.counters cycle node live)

  -- the begin of a turn
  pub begin_right : (cycle : ℕ) → cycle < count → PulseIsRight Occurs machine cycle graph.last → Reflects ((turn : ℕ) × Begins turn cycle) (turn_begins graph machine cycle)
  begin_right zero within last_right = holds (0, timeline.first within) (rw machine_is.unstarted refl)
  begin_right (suc before) within last_right =
      let same : before + 1 ≡ suc before = omega arith in
      let started : machine.started (suc before) ≡ true = rw same at (machine_is.starts before) in
      same_bit (rw started refl) (same_fact (λ last. (last.0 + 1, timeline.next last.0 (suc before) within last.1)) (λ begin. back begin.0 begin.1) last_right)
    where
      back : (turn : ℕ) → Begins turn (suc before) → OccursIn Occurs graph.last (suc before)
      back zero begins = absurd (let impossible : suc before ≡ 0 = timeline.first_only (suc before) begins in omega arith)
      back (suc turn) begins = let same : suc turn ≡ turn + 1 = omega arith in (turn, timeline.ended turn (suc before) (rw same at begins))

  pub start_right : (cycle node : ℕ) → graph.live node ≡ true → cycle < count → graph.form node ≡ Start → Reflects ((turn : ℕ) × Begins turn cycle) (turn_begins graph machine cycle) → PulseIsRight Occurs machine cycle node
  start_right cycle node live within form_is begin =
      same_bit (pulse_as cycle node live Start form_is)
      (same_fact (λ begins. (begins.0, (occurs_as begins.0 node cycle live within Start form_is).1 begins.1)) (λ occurs. (occurs.0, (occurs_as occurs.0 node cycle live within Start form_is).0 occurs.1)) begin)

  pub same_right : (cycle node from : ℕ) → graph.live node ≡ true → cycle < count → graph.form node ≡ Same from → PulseIsRight Occurs machine cycle from → PulseIsRight Occurs machine cycle node
  same_right cycle node from live within form_is from_right =
      same_bit (pulse_as cycle node live (Same from) form_is)
      (same_fact (λ occurs. (occurs.0, (occurs_as occurs.0 node cycle live within (Same from) form_is).1 occurs.1)) (λ occurs. (occurs.0, (occurs_as occurs.0 node cycle live within (Same from) form_is).0 occurs.1)) from_right)

  pub side_right : (cycle node from : ℕ) → graph.live node ≡ true → cycle < count → graph.form node ≡ Side from → PulseIsRight Occurs machine cycle from → PulseIsRight Occurs machine cycle node
  side_right cycle node from live within form_is from_right =
      same_bit (pulse_as cycle node live (Side from) form_is) (same_fact there back (reflects_and from_right (reflects_itself (seen.chosen node cycle))))
    where
      there : OccursIn Occurs from cycle × (seen.chosen node cycle ≡ true) → OccursIn Occurs node cycle
      there both = (both.0.0, (occurs_as both.0.0 node cycle live within (Side from) form_is).1 (both.0.1, both.1))

      back : OccursIn Occurs node cycle → OccursIn Occurs from cycle × (seen.chosen node cycle ≡ true)
      back occurs = let both = (occurs_as occurs.0 node cycle live within (Side from) form_is).0 occurs.1 in ((occurs.0, both.0), both.1)

  pub merge_right : (cycle node first second : ℕ) → graph.live node ≡ true → cycle < count → graph.form node ≡ Merge first second → PulseIsRight Occurs machine cycle first → PulseIsRight Occurs machine cycle second → PulseIsRight Occurs machine cycle node
  merge_right cycle node first second live within form_is first_right second_right =
      same_bit (pulse_as cycle node live (Merge first second) form_is)
      (same_fact there (λ occurs. back occurs.0 ((occurs_as occurs.0 node cycle live within (Merge first second) form_is).0 occurs.1)) (reflects_or first_right second_right))
    where
      there : OccursIn Occurs first cycle ⊎ OccursIn Occurs second cycle → OccursIn Occurs node cycle
      there (inl occurs) = (occurs.0, (occurs_as occurs.0 node cycle live within (Merge first second) form_is).1 (inl occurs.1))
      there (inr occurs) = (occurs.0, (occurs_as occurs.0 node cycle live within (Merge first second) form_is).1 (inr occurs.1))

      back : (turn : ℕ) → Occurs turn first cycle ⊎ Occurs turn second cycle → OccursIn Occurs first cycle ⊎ OccursIn Occurs second cycle
      back turn (inl occurs) = inl (turn, occurs)
      back turn (inr occurs) = inr (turn, occurs)

  -- a wait for a partner
  pub sync_right : (cycle node from : ℕ) → graph.live node ≡ true → cycle < count → graph.form node ≡ Sync from → PulseIsRight Occurs machine cycle from → RegistersAreRight graph seen Begins Occurs machine cycle node (Sync from) → PulseIsRight Occurs machine cycle node
  sync_right cycle node from live within form_is from_right pending_right =
      same_bit (pulse_as cycle node live (Sync from) form_is)
      (same_fact (λ both. there both.0 both.1) (λ occurs. back occurs.0 ((occurs_as occurs.0 node cycle live within (Sync from) form_is).0 occurs.1))
      (reflects_and (reflects_or from_right pending_right) (reflects_itself (seen.wire node cycle))))
    where
      there : OccursIn Occurs from cycle ⊎ Pending seen Occurs node from cycle → seen.wire node cycle ≡ true → OccursIn Occurs node cycle
      there (inl begin) wire = (begin.0, (occurs_as begin.0 node cycle live within (Sync from) form_is).1 (cycle, omega arith, begin.1, wire, λ between above below. absurd (omega arith)))
      there (inr pending) wire = (pending.0, (occurs_as pending.0 node cycle live within (Sync from) form_is).1 (pending.1, omega (arith, pending.2), pending.3, wire, pending.4))

      back : (turn : ℕ) → OccursAs seen Begins Occurs turn node cycle (Sync from) → (OccursIn Occurs from cycle ⊎ Pending seen Occurs node from cycle) × (seen.wire node cycle ≡ true)
      back turn waited = (now_or_before (cases_lt waited.0 cycle), waited.3)
        where
          now_or_before : (waited.0 < cycle) ⊎ (cycle ≤ waited.0) → OccursIn Occurs from cycle ⊎ Pending seen Occurs node from cycle
          now_or_before (inl before) = inr (turn, waited.0, before, waited.2, waited.4)
          now_or_before (inr now) = let same : waited.0 ≡ cycle = omega (arith, waited.1) in inl (turn, rw same at (waited.2))

  pub sync_kept : (cycle node from : ℕ) → graph.live node ≡ true → cycle < count → graph.form node ≡ Sync from → PulseIsRight Occurs machine cycle from → RegistersAreRight graph seen Begins Occurs machine cycle node (Sync from) → RegistersAreRight graph seen Begins Occurs machine (cycle + 1) node (Sync from)
  sync_kept cycle node from live within form_is from_right pending_right =
      same_bit (bit_as cycle node live (Sync from) form_is)
      (same_fact (λ both. there both.0 both.1) back (reflects_and (reflects_or from_right pending_right) (reflects_not (reflects_itself (seen.wire node cycle)))))
    where
      also_now : (start : ℕ) → ((between : ℕ) → start ≤ between → between < cycle → seen.wire node between ≡ false) → seen.wire node cycle ≡ false → (between : ℕ) → start ≤ between → between < cycle + 1 → seen.wire node between ≡ false
      also_now start quiet quiet_now between above below = earlier_or_now (cases_lt between cycle)
        where
          earlier_or_now : (between < cycle) ⊎ (cycle ≤ between) → seen.wire node between ≡ false
          earlier_or_now (inl earlier) = quiet between above earlier
          earlier_or_now (inr now) = let same : between ≡ cycle = omega arith in rw same quiet_now

      there : OccursIn Occurs from cycle ⊎ Pending seen Occurs node from cycle → (seen.wire node cycle ≡ true → ⊥) → Pending seen Occurs node from (cycle + 1)
      there (inl begin) no_wire = (begin.0, cycle, omega arith, begin.1, λ between above below. let same : between ≡ cycle = omega arith in rw same (off no_wire))
      there (inr pending) no_wire = (pending.0, pending.1, omega (arith, pending.2), pending.3, also_now pending.1 pending.4 (off no_wire))

      back : Pending seen Occurs node from (cycle + 1) → (OccursIn Occurs from cycle ⊎ Pending seen Occurs node from cycle) × (seen.wire node cycle ≡ true → ⊥)
      back pending =
          (now_or_before (cases_lt pending.1 cycle), λ wire. let quiet : seen.wire node cycle ≡ false = pending.4 cycle (omega (arith, pending.2)) (omega arith) in cc)
        where
          now_or_before : (pending.1 < cycle) ⊎ (cycle ≤ pending.1) → OccursIn Occurs from cycle ⊎ Pending seen Occurs node from cycle
          now_or_before (inl before) = inr (pending.0, pending.1, before, pending.3, λ between above below. pending.4 between above (omega arith))
          now_or_before (inr now) = let same : pending.1 ≡ cycle = omega (arith, pending.2) in inl (pending.0, rw same at (pending.3))
