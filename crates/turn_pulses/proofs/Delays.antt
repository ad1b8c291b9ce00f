-- A delay occurs where its counter is 1, and the counter goes on telling how many cycles are left.
--
-- The hard case is a load while the counter still runs: another turn would have to begin its delay before this one is over. It
-- cannot, since the end of the delay is of the earlier turn and so no later than any node of the later one.
use Rattle.std.proofs.Common.{◌≡◌, ℕ, ◌+◌, ◌-◌, ◌<◌, ◌≤◌, ◌==◌, ◌⊎◌, inl, inr, arith, sym, ◌∙◌, true}
use Rattle.std.proofs.lemmas.Bool.{cases_eq, cases_lt, cases_order}
use Rattle.std.proofs.lemmas.Bool.Decides.{nat_tests}
use Rattle.order_rules.specs.Form.{After}
use Rattle.turn_pulses.specs.TurnGraph.{TurnGraph}
use Rattle.turn_pulses.specs.PulseMachine.{Seen, PulseMachine, IsPulseMachine, next_counter}
use Rattle.turn_pulses.specs.Timeline.{IsTimeline, Elapses}
use Rattle.turn_pulses.proofs.Reflects.{Reflects, holds, fails, same_bit}
use Rattle.turn_pulses.proofs.Windows.{later_turn_is_later}
use Rattle.turn_pulses.proofs.Occurrences.{OccursIn, PulseIsRight, CountsDown, RegistersAreRight}
use Rattle.turn_pulses.proofs.Local.{occurs_as, pulse_as, counter_as}

module _ (graph : TurnGraph) (seen : Seen) (count : ℕ) (Begins : ℕ → ℕ → Type 0) (Occurs : ℕ → ℕ → ℕ → Type 0) (timeline : IsTimeline graph seen count Begins Occurs) (machine : PulseMachine) (machine_is : IsPulseMachine graph seen machine) where
  pub after_right : (cycle node delay from : ℕ) → graph.live node ≡ true → cycle < count → 0 < delay → graph.form node ≡ After delay from → RegistersAreRight graph seen Begins Occurs machine cycle node (After delay from) → PulseIsRight Occurs machine cycle node
  after_right cycle node delay from live within positive form_is counter_right =
      same_bit (pulse_as graph seen count Begins Occurs timeline machine machine_is cycle node live (After delay from) form_is) (by_counter (cases_eq (machine.counter cycle node) 1))
    where
      by_counter : (machine.counter cycle node ≡ 1) ⊎ (machine.counter cycle node ≡ 1 → ⊥) → Reflects (OccursIn Occurs node cycle) (machine.counter cycle node == 1)
      by_counter (inl at_one) =
          let counts = counter_right.0 1 (omega arith) at_one in
          let over : counts.1 + delay ≡ cycle = omega (arith, counts.3) in
          holds (counts.0, (occurs_as graph seen count Begins Occurs timeline machine machine_is counts.0 node cycle live within (After delay from) form_is).1 (counts.1, over, counts.4)) (grind (arith, nat_tests))
      by_counter (inr not_at_one) =
          fails (λ occurs. let elapsed = (occurs_as graph seen count Begins Occurs timeline machine machine_is occurs.0 node cycle live within (After delay from) form_is).0 occurs.1 in not_at_one (counter_right.1 1 (omega arith) (occurs.0, elapsed.0, omega (arith, elapsed.1), omega (arith, elapsed.1), elapsed.2))) (grind (arith, nat_tests))

  -- a delay is over before its begin occurs again
  over_before_next : (node delay from turn other start again : ℕ) → graph.live node ≡ true → graph.form node ≡ After delay from → start < count → Occurs turn from start → Occurs other from again → start < again → start + delay ≤ again
  over_before_next node delay from turn other start again live form_is within begins begins_again below = by_order (cases_order turn other)
    where
      elapses : Occurs turn node (start + delay)
      elapses = let at_form : Elapses Occurs count turn node (After delay from) = rw form_is at (timeline.elapses turn node live) in at_form start within begins

      by_order : (turn ≡ other) ⊎ ((turn < other) ⊎ (other < turn)) → start + delay ≤ again
      by_order (inl same) = absurd (let again_here : Occurs turn from again = rw (sym same) at begins_again in let once = timeline.once turn from start again begins again_here in omega arith)
      by_order (inr (inl later)) = later_turn_is_later graph seen count Begins Occurs timeline turn other node from (start + delay) again elapses begins_again later
      by_order (inr (inr earlier)) = absurd (let order = later_turn_is_later graph seen count Begins Occurs timeline other turn from from again start begins_again begins earlier in omega arith)

  pub after_kept : (cycle node delay from : ℕ) → graph.live node ≡ true → cycle < count → graph.form node ≡ After delay from → PulseIsRight Occurs machine cycle from → RegistersAreRight graph seen Begins Occurs machine cycle node (After delay from) → RegistersAreRight graph seen Begins Occurs machine (cycle + 1) node (After delay from)
  after_kept cycle node delay from live within form_is from_right counter_right =
      (λ rest positive shows. there rest positive (sym counter_next ∙ shows) from_right, λ rest positive counts. counter_next ∙ back rest positive counts from_right)
    where
      counter_next : machine.counter (cycle + 1) node ≡ next_counter machine cycle node (After delay from)
      counter_next = counter_as graph seen count Begins Occurs timeline machine machine_is cycle node live (After delay from) form_is

      there : (rest : ℕ) → 0 < rest → next_counter machine cycle node (After delay from) ≡ rest → PulseIsRight Occurs machine cycle from → CountsDown Occurs delay from (cycle + 1) rest
      there rest positive shows (holds begin pulse) = let loaded : delay ≡ rest = rw pulse at shows in (begin.0, cycle, omega arith, omega arith, begin.1)
      there rest positive shows (fails none no_pulse) =
          let counted : machine.counter cycle node - 1 ≡ rest = rw no_pulse at shows in
          let counts = counter_right.0 (rest + 1) (omega arith) (omega arith) in
          (counts.0, counts.1, omega (arith, counts.2), omega (arith, counts.3), counts.4)

      back : (rest : ℕ) → 0 < rest → CountsDown Occurs delay from (cycle + 1) rest → PulseIsRight Occurs machine cycle from → next_counter machine cycle node (After delay from) ≡ rest
      back rest positive counts from_right = by_start (cases_lt counts.1 cycle) from_right
        where
          by_start : (counts.1 < cycle) ⊎ (cycle ≤ counts.1) → PulseIsRight Occurs machine cycle from → next_counter machine cycle node (After delay from) ≡ rest
          by_start (inl before) (holds begin pulse) =
              absurd (let over = over_before_next node delay from counts.0 begin.0 counts.1 cycle live form_is (omega arith) counts.4 begin.1 before in omega (arith, counts.3))
          by_start (inl before) (fails none no_pulse) =
              let shown : machine.counter cycle node ≡ rest + 1 = counter_right.1 (rest + 1) (omega arith) (counts.0, counts.1, before, omega (arith, counts.3), counts.4) in
              rw no_pulse (omega arith)
          by_start (inr now) (holds begin pulse) = rw pulse (omega (arith, counts.2, counts.3))
          by_start (inr now) (fails none no_pulse) = absurd (let same : counts.1 ≡ cycle = omega (arith, counts.2) in none (counts.0, rw same at (counts.4)))
