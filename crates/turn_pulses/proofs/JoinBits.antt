-- The bit of a join goes on saying that exactly one of both ends has come.
--
-- The new bit is the exclusive or of the old one and of both pulses, so there are eight cases. With the old bit and both pulses one
-- end would come twice, which no turn has. Each other case says of the two ends which has come by the end of this cycle; in those
-- where the new bit is 0, a turn in which one alone has come would have to be the turn of this cycle, in which both have or none.
use Rattle.std.proofs.Common.{◌≡◌, ℕ, ◌+◌, ◌-◌, ◌<◌, ◌≤◌, ◌⊎◌, inl, inr, arith, refl, true, false}
use Rattle.std.proofs.lemmas.Bool.{cases_lt}
use Rattle.order_rules.specs.Form.{Join}
use Rattle.turn_pulses.specs.TurnGraph.{TurnGraph}
use Rattle.turn_pulses.specs.PulseMachine.{Seen, PulseMachine, IsPulseMachine, turn_begins, one_has_come, xor}
use Rattle.turn_pulses.specs.Timeline.{IsTimeline}
use Rattle.turn_pulses.proofs.Reflects.{Reflects, holds, fails, same_bit}
use Rattle.turn_pulses.proofs.Windows.{InTurn, one_turn, lag, occurs_in}
use Rattle.turn_pulses.proofs.Occurrences.{OccursIn, PulseIsRight, OneCame, AwaitsOther, RegistersAreRight}
use Rattle.turn_pulses.proofs.Local.{bit_as}
use Rattle.turn_pulses.proofs.Joins.{OneCameIn, bit_right, first_now, second_now, both_now}

-- an end has come by this cycle
abbrev pub CameBy : (Occurs : ℕ → ℕ → ℕ → Type 0) → (turn node cycle : ℕ) → Type 0
CameBy Occurs turn node cycle = (start : ℕ) × (start ≤ cycle) × Occurs turn node start

module _ (graph : TurnGraph) (seen : Seen) (count : ℕ) (Begins : ℕ → ℕ → Type 0) (Occurs : ℕ → ℕ → ℕ → Type 0) (timeline : IsTimeline graph seen count Begins Occurs) (machine : PulseMachine) (machine_is : IsPulseMachine graph seen machine) where
  module _ (node first second : ℕ) (live : graph.live node ≡ true) (form_is : graph.form node ≡ Join first second) (alike : graph.tail first ≡ graph.tail second) (of_tail : graph.forgets node ≡ true → graph.tail first ≡ false) where
    abbrev Here : (turn cycle : ℕ) → Type 0
    Here turn cycle = InTurn Begins (lag (graph.tail first)) turn cycle

    abbrev One : (turn cycle : ℕ) → Type 0
    One turn cycle = OneCame Occurs turn first second cycle

    abbrev Came : (cycle : ℕ) → Type 0
    Came cycle = OneCameIn graph Begins Occurs first second cycle

    abbrev Awaits : (cycle : ℕ) → Type 0
    Awaits cycle = AwaitsOther graph Begins Occurs first second cycle

    first_here : (turn cycle : ℕ) → Occurs turn first cycle → Here turn cycle
    first_here turn cycle occurs = occurs_in graph seen count Begins Occurs timeline turn first cycle occurs

    second_here : (turn cycle : ℕ) → Occurs turn second cycle → Here turn cycle
    second_here turn cycle occurs = rw alike (occurs_in graph seen count Begins Occurs timeline turn second cycle occurs)

    same_turn : (cycle turn other : ℕ) → Here turn cycle → Here other cycle → turn ≡ other
    same_turn cycle turn other here there = one_turn graph seen count Begins Occurs timeline (lag (graph.tail first)) turn other cycle here there

    -- the cycle before the next one is this one
    of_this_cycle : (cycle : ℕ) → Awaits (cycle + 1) → (turn : ℕ) × One turn (cycle + 1) × Here turn cycle
    of_this_cycle cycle awaits = let same : cycle + 1 - 1 ≡ cycle = omega arith in (awaits.0, awaits.1, rw same at (awaits.2))

    to_next_cycle : (cycle turn : ℕ) → One turn (cycle + 1) → Here turn cycle → Awaits (cycle + 1)
    to_next_cycle cycle turn one here = let same : cycle ≡ cycle + 1 - 1 = omega arith in (turn, one, rw same at here)

    -- where no end comes in this cycle, one has come before it exactly where one has come by it
    stays_one : (cycle turn : ℕ) → (OccursIn Occurs first cycle → ⊥) → (OccursIn Occurs second cycle → ⊥) → One turn cycle → One turn (cycle + 1)
    stays_one cycle turn no_first no_second (inl alone) = inl ((alone.0.0, omega (arith, alone.0.1), alone.0.2), λ earlier below occurs. by_time earlier occurs (cases_lt earlier cycle) below)
      where
        by_time : (earlier : ℕ) → Occurs turn second earlier → (earlier < cycle) ⊎ (cycle ≤ earlier) → earlier < cycle + 1 → ⊥
        by_time earlier occurs (inl before) below = alone.1 earlier before occurs
        by_time earlier occurs (inr now) below = let same : earlier ≡ cycle = omega arith in no_second (turn, rw same at occurs)
    stays_one cycle turn no_first no_second (inr alone) = inr ((alone.0.0, omega (arith, alone.0.1), alone.0.2), λ earlier below occurs. by_time earlier occurs (cases_lt earlier cycle) below)
      where
        by_time : (earlier : ℕ) → Occurs turn first earlier → (earlier < cycle) ⊎ (cycle ≤ earlier) → earlier < cycle + 1 → ⊥
        by_time earlier occurs (inl before) below = alone.1 earlier before occurs
        by_time earlier occurs (inr now) below = let same : earlier ≡ cycle = omega arith in no_first (turn, rw same at occurs)

    was_one : (cycle turn : ℕ) → (OccursIn Occurs first cycle → ⊥) → (OccursIn Occurs second cycle → ⊥) → One turn (cycle + 1) → One turn cycle
    was_one cycle turn no_first no_second (inl alone) = by_time (cases_lt alone.0.0 cycle)
      where
        by_time : (alone.0.0 < cycle) ⊎ (cycle ≤ alone.0.0) → One turn cycle
        by_time (inl before) = inl ((alone.0.0, before, alone.0.2), λ earlier below occurs. alone.1 earlier (omega arith) occurs)
        by_time (inr now) = absurd (let same : alone.0.0 ≡ cycle = omega (arith, alone.0.1) in no_first (turn, rw same at (alone.0.2)))
    was_one cycle turn no_first no_second (inr alone) = by_time (cases_lt alone.0.0 cycle)
      where
        by_time : (alone.0.0 < cycle) ⊎ (cycle ≤ alone.0.0) → One turn cycle
        by_time (inl before) = inr ((alone.0.0, before, alone.0.2), λ earlier below occurs. alone.1 earlier (omega arith) occurs)
        by_time (inr now) = absurd (let same : alone.0.0 ≡ cycle = omega (arith, alone.0.1) in no_second (turn, rw same at (alone.0.2)))

    -- where both have come by this cycle, none is awaited
    both_came : (cycle turn : ℕ) → CameBy Occurs turn first cycle → CameBy Occurs turn second cycle → One turn (cycle + 1) → ⊥
    both_came cycle turn one other (inl alone) = alone.1 other.0 (omega (arith, other.1)) other.2
    both_came cycle turn one other (inr alone) = alone.1 one.0 (omega (arith, one.1)) one.2

    none_awaited : (cycle turn : ℕ) → Here turn cycle → CameBy Occurs turn first cycle → CameBy Occurs turn second cycle → Awaits (cycle + 1) → ⊥
    none_awaited cycle turn here one other awaits =
        let this = of_this_cycle cycle awaits in
        let same : this.0 ≡ turn = same_turn cycle this.0 turn this.2 here in
        both_came cycle turn one other (rw same at (this.1))

    -- one comes where none has
    first_alone : (cycle turn : ℕ) → Occurs turn first cycle → (Came cycle → ⊥) → (OccursIn Occurs second cycle → ⊥) → Awaits (cycle + 1)
    first_alone cycle turn occurs none no_second =
        to_next_cycle cycle turn (inl ((cycle, omega arith, occurs), λ earlier below before. by_time earlier before (cases_lt earlier cycle) below)) (first_here turn cycle occurs)
      where
        by_time : (earlier : ℕ) → Occurs turn second earlier → (earlier < cycle) ⊎ (cycle ≤ earlier) → earlier < cycle + 1 → ⊥
        by_time earlier came (inl before) below =
            none (turn, inr ((earlier, before, came), λ again sooner repeated. let once = timeline.once turn first again cycle repeated occurs in omega arith), first_here turn cycle occurs)
        by_time earlier came (inr now) below = let same : earlier ≡ cycle = omega arith in no_second (turn, rw same at came)

    second_alone : (cycle turn : ℕ) → Occurs turn second cycle → (Came cycle → ⊥) → (OccursIn Occurs first cycle → ⊥) → Awaits (cycle + 1)
    second_alone cycle turn occurs none no_first =
        to_next_cycle cycle turn (inr ((cycle, omega arith, occurs), λ earlier below before. by_time earlier before (cases_lt earlier cycle) below)) (second_here turn cycle occurs)
      where
        by_time : (earlier : ℕ) → Occurs turn first earlier → (earlier < cycle) ⊎ (cycle ≤ earlier) → earlier < cycle + 1 → ⊥
        by_time earlier came (inl before) below =
            none (turn, inl ((earlier, before, came), λ again sooner repeated. let once = timeline.once turn second again cycle repeated occurs in omega arith), second_here turn cycle occurs)
        by_time earlier came (inr now) below = let same : earlier ≡ cycle = omega arith in no_first (turn, rw same at came)

    pub join_kept : (cycle : ℕ) → PulseIsRight Occurs machine cycle first → PulseIsRight Occurs machine cycle second
        → Reflects ((turn : ℕ) × Begins turn cycle) (turn_begins graph machine cycle) ⊎ (graph.forgets node ≡ false)
        → RegistersAreRight graph seen Begins Occurs machine cycle node (Join first second) → RegistersAreRight graph seen Begins Occurs machine (cycle + 1) node (Join first second)
    join_kept cycle first_right second_right begin register_right =
        same_bit (bit_as graph seen count Begins Occurs timeline machine machine_is cycle node live (Join first second) form_is)
        (by_bits (bit_right graph seen count Begins Occurs timeline machine machine_is node first second live form_is alike of_tail cycle begin register_right) first_right second_right)
      where
        first_and_before : (came : Came cycle) (one : OccursIn Occurs first cycle) → (turn : ℕ) × Here turn cycle × CameBy Occurs turn first cycle × CameBy Occurs turn second cycle
        first_and_before came one =
            let now = first_now graph seen count Begins Occurs timeline machine machine_is node first second live form_is alike of_tail cycle came one in
            let before = now.1.0 in
            (now.0, first_here now.0 cycle now.2, (cycle, omega arith, now.2), (before.0, omega (arith, before.1), before.2))

        second_and_before : (came : Came cycle) (other : OccursIn Occurs second cycle) → (turn : ℕ) × Here turn cycle × CameBy Occurs turn first cycle × CameBy Occurs turn second cycle
        second_and_before came other =
            let now = second_now graph seen count Begins Occurs timeline machine machine_is node first second live form_is alike of_tail cycle came other in
            let before = now.1.0 in
            (now.0, second_here now.0 cycle now.2, (before.0, omega (arith, before.1), before.2), (cycle, omega arith, now.2))

        both : OccursIn Occurs first cycle → OccursIn Occurs second cycle → (turn : ℕ) × Occurs turn first cycle × Occurs turn second cycle
        both one other = both_now graph seen count Begins Occurs timeline machine machine_is node first second live form_is alike of_tail cycle one other

        twice : Came cycle → OccursIn Occurs first cycle → OccursIn Occurs second cycle → ⊥
        twice came one other =
            let now = first_now graph seen count Begins Occurs timeline machine machine_is node first second live form_is alike of_tail cycle came one in
            let before = now.1.0 in
            let together = both one other in
            let same : now.0 ≡ together.0 = same_turn cycle now.0 together.0 (first_here now.0 cycle now.2) (first_here together.0 cycle together.1) in
            let once = timeline.once together.0 second before.0 cycle (rw same at (before.2)) together.2 in
            omega (arith, before.1)

        by_bits : Reflects (Came cycle) (one_has_come graph machine cycle node) → PulseIsRight Occurs machine cycle first → PulseIsRight Occurs machine cycle second
            → Reflects (Awaits (cycle + 1)) (xor (one_has_come graph machine cycle node) (xor (machine.pulse cycle first) (machine.pulse cycle second)))
        by_bits (holds came bit) (holds one pulse) (holds other second_pulse) = absurd (twice came one other)
        by_bits (holds came bit) (holds one pulse) (fails no_second no_pulse) =
            fails (λ awaits. let now = first_and_before came one in none_awaited cycle now.0 now.1 now.2 now.3 awaits) (rw (bit, pulse, no_pulse) refl)
        by_bits (holds came bit) (fails no_first no_pulse) (holds other pulse) =
            fails (λ awaits. let now = second_and_before came other in none_awaited cycle now.0 now.1 now.2 now.3 awaits) (rw (bit, no_pulse, pulse) refl)
        by_bits (holds came bit) (fails no_first no_pulse) (fails no_second no_other) =
            holds (to_next_cycle cycle came.0 (stays_one cycle came.0 no_first no_second came.1) came.2) (rw (bit, no_pulse, no_other) refl)
        by_bits (fails none bit) (holds one pulse) (holds other second_pulse) =
            fails (λ awaits. let now = both one other in none_awaited cycle now.0 (first_here now.0 cycle now.1) (cycle, omega arith, now.1) (cycle, omega arith, now.2) awaits) (rw (bit, pulse, second_pulse) refl)
        by_bits (fails none bit) (holds one pulse) (fails no_second no_pulse) = holds (first_alone cycle one.0 one.1 none no_second) (rw (bit, pulse, no_pulse) refl)
        by_bits (fails none bit) (fails no_first no_pulse) (holds other pulse) = holds (second_alone cycle other.0 other.1 none no_first) (rw (bit, no_pulse, pulse) refl)
        by_bits (fails none bit) (fails no_first no_pulse) (fails no_second no_other) =
            fails (λ awaits. let this = of_this_cycle cycle awaits in none (this.0, was_one cycle this.0 no_first no_second this.1, this.2)) (rw (bit, no_pulse, no_other) refl)
