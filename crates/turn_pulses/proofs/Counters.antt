-- A counter never exceeds its delay: it begins at 0, is loaded with the delay, and else counts down.
use Rattle.std.proofs.Common.{◌≡◌, ℕ, ◌+◌, ◌-◌, ◌≤◌, arith, Bool, true, false, if◌then◌else◌, zero, suc}
use Rattle.order_rules.specs.Form.{After}
use Rattle.turn_pulses.specs.TurnGraph.{TurnGraph}
use Rattle.turn_pulses.specs.PulseMachine.{Seen, PulseMachine, IsPulseMachine, next_counter}

module _ (graph : TurnGraph) (seen : Seen) (machine : PulseMachine) (machine_is : IsPulseMachine graph seen machine) where
  pub counter_fits : (cycle node delay from : ℕ) → graph.live node ≡ true → graph.form node ≡ After delay from → machine.counter cycle node ≤ delay
  counter_fits zero node delay from live form_is = let none = machine_is.no_count node in omega (arith, none)
  counter_fits (suc cycle) node delay from live form_is =
      let same : suc cycle ≡ cycle + 1 = omega arith in
      let next : machine.counter (cycle + 1) node ≡ next_counter machine cycle node (After delay from) = rw form_is at (machine_is.counters cycle node live) in
      rw same (rw next (by_pulse (machine.pulse cycle from) (counter_fits cycle node delay from live form_is)))
    where
      by_pulse : (pulse : Bool) → machine.counter cycle node ≤ delay → (if pulse then delay else machine.counter cycle node - 1) ≤ delay
      by_pulse true fits = omega arith
      by_pulse false fits = omega arith
