-- The pulse of a join is right: it occurs when the later of its two ends comes.
--
-- Both ends are of one kind, so their cycles are counted alike and a cycle is of one turn. Where both ends come in one cycle they
-- are of one turn. Where one comes and the bit says that one has come before, both are of the turn in which it came, unless
-- that turn is over. A turn that is over leaves no bit where both ends come or none does; where a join forgets, the begin of the
-- next turn clears it, which is the hard case: then the bit says the same in that turn alone.
use Rattle.std.proofs.Common.{◌≡◌, ℕ, ◌+◌, ◌-◌, ◌<◌, ◌≤◌, ◌⊎◌, inl, inr, arith, refl, sym, ◌∙◌, Bool, true, false, ◌&&◌}
use Rattle.std.proofs.lemmas.Bool.{cases_lt}
use Rattle.order_rules.specs.Form.{Join}
use Rattle.turn_pulses.specs.TurnGraph.{TurnGraph}
use Rattle.turn_pulses.specs.PulseMachine.{Seen, PulseMachine, IsPulseMachine, turn_begins, one_has_come}
use Rattle.turn_pulses.specs.Timeline.{IsTimeline, OccursAs, HasBothOrNone}
use Rattle.turn_pulses.proofs.Reflects.{Reflects, same_bit, same_fact, reflects_or, reflects_and, reflects_not}
use Rattle.turn_pulses.proofs.Windows.{InTurn, begun_next, one_turn, lag, occurs_in, in_between, no_later_begin}
use Rattle.turn_pulses.proofs.Occurrences.{OccursIn, PulseIsRight, CameAlone, OneCame, AwaitsOther, RegistersAreRight}
use Rattle.turn_pulses.proofs.Local.{occurs_as, pulse_as}

-- a turn goes on in which one of both ends has come before this cycle
abbrev pub OneCameIn : TurnGraph → (Begins : ℕ → ℕ → Type 0) → (Occurs : ℕ → ℕ → ℕ → Type 0) → (first second cycle : ℕ) → Type 0
OneCameIn graph Begins Occurs first second cycle = (turn : ℕ) × OneCame Occurs turn first second cycle × InTurn Begins (lag (graph.tail first)) turn cycle

module _ (graph : TurnGraph) (seen : Seen) (count : ℕ) (Begins : ℕ → ℕ → Type 0) (Occurs : ℕ → ℕ → ℕ → Type 0) (timeline : IsTimeline graph seen count Begins Occurs) (machine : PulseMachine) (machine_is : IsPulseMachine graph seen machine) where
  module _ (node first second : ℕ) (live : graph.live node ≡ true) (form_is : graph.form node ≡ Join first second) (alike : graph.tail first ≡ graph.tail second) (of_tail : graph.forgets node ≡ true → graph.tail first ≡ false) where
    abbrev Here : (turn cycle : ℕ) → Type 0
    Here turn cycle = InTurn Begins (lag (graph.tail first)) turn cycle

    abbrev One : (turn cycle : ℕ) → Type 0
    One turn cycle = OneCame Occurs turn first second cycle

    abbrev Came : (cycle : ℕ) → Type 0
    Came cycle = OneCameIn graph Begins Occurs first second cycle

    abbrev Awaits : (cycle : ℕ) → Type 0
    Awaits cycle = AwaitsOther graph Begins Occurs first second cycle

    -- what is known of the begin where the bit is read: all, or that it is not asked
    abbrev KnowsBegin : (cycle : ℕ) → Type 0
    KnowsBegin cycle = Reflects ((turn : ℕ) × Begins turn cycle) (turn_begins graph machine cycle) ⊎ (graph.forgets node ≡ false)

    pub first_in : (turn cycle : ℕ) → Occurs turn first cycle → Here turn cycle
    first_in turn cycle occurs = occurs_in graph seen count Begins Occurs timeline turn first cycle occurs

    pub second_in : (turn cycle : ℕ) → Occurs turn second cycle → Here turn cycle
    second_in turn cycle occurs = rw alike (occurs_in graph seen count Begins Occurs timeline turn second cycle occurs)

    -- where one has come, a cycle before is of the turn
    came_before : (turn cycle : ℕ) → One turn cycle → (start : ℕ) × (start < cycle) × Here turn start
    came_before turn cycle (inl came) = (came.0.0, came.0.1, first_in turn came.0.0 came.0.2)
    came_before turn cycle (inr came) = (came.0.0, came.0.1, second_in turn came.0.0 came.0.2)

    -- a turn that is over does not wait, where nothing is forgotten
    not_over : (turn cycle end : ℕ) → graph.forgets node ≡ false → One turn cycle → Begins (turn + 1) end → cycle < end + lag (graph.tail first)
    not_over turn cycle end keeps one ends = by_end one
      where
        both_or_none : HasBothOrNone graph Occurs turn node (Join first second)
        both_or_none = rw form_is at (timeline.both_or_none turn node end live ends)

        by_end : One turn cycle → cycle < end + lag (graph.tail first)
        by_end (inl came) =
            let other = (both_or_none keeps).0 came.0.0 came.0.2 in
            let here = second_in turn other.0 other.1 in
            let before_end = here.until end ends in
            let not_before : other.0 < cycle → ⊥ = λ before. came.1 other.0 before other.1 in
            omega arith
        by_end (inr came) =
            let other = (both_or_none keeps).1 came.0.0 came.0.2 in
            let here = first_in turn other.0 other.1 in
            let before_end = here.until end ends in
            let not_before : other.0 < cycle → ⊥ = λ before. came.1 other.0 before other.1 in
            omega arith

    pub bit_right : (cycle : ℕ) → KnowsBegin cycle → RegistersAreRight graph seen Begins Occurs machine cycle node (Join first second) → Reflects (Came cycle) (one_has_come graph machine cycle node)
    bit_right cycle begin register_right = by_forgetting (graph.forgets node) refl begin
      where
        before : Came cycle → Awaits cycle
        before came =
            let earlier = came_before came.0 cycle came.1 in
            (came.0, came.1, in_between graph seen count Begins Occurs timeline (lag (graph.tail first)) came.0 earlier.0 cycle (cycle - 1) earlier.2 came.2 (omega (arith, earlier.1)) (omega arith))

        by_forgetting : (forgets : Bool) → graph.forgets node ≡ forgets → KnowsBegin cycle → Reflects (Came cycle) (one_has_come graph machine cycle node)
        by_forgetting false keeps begin =
            same_bit (rw keeps bit_alone) (same_fact there before register_right)
          where
            bit_alone : (machine.bit cycle node && true) ≡ machine.bit cycle node
            bit_alone = and_true (machine.bit cycle node)
              where
                and_true : (bit : Bool) → (bit && true) ≡ bit
                and_true true = refl
                and_true false = refl

            there : Awaits cycle → Came cycle
            there awaits =
                let here = awaits.2 in
                (awaits.0, awaits.1, record { start = here.start; begins = here.begins; from = let from = here.from in omega arith; until = λ end ends. not_over awaits.0 cycle end keeps awaits.1 ends })
        by_forgetting true forgets (inr keeps) = absurd (let impossible : true ≡ false = sym forgets ∙ keeps in cc)
        by_forgetting true forgets (inl begin_right) =
            same_bit (rw forgets refl) (same_fact (λ both. there both.0 both.1) (λ came. (before came, no_begin came)) (reflects_and register_right (reflects_not begin_right)))
          where
            no_lag : lag (graph.tail first) ≡ 0
            no_lag = rw (of_tail forgets) refl

            there : Awaits cycle → ((turn : ℕ) × Begins turn cycle → ⊥) → Came cycle
            there awaits none =
                let here = awaits.2 in
                let earlier = came_before awaits.0 cycle awaits.1 in (
                  awaits.0,
                  awaits.1,
                  record {
                    start = here.start;
                    begins = here.begins;
                    from = let from = here.from in omega arith;
                    until = λ end ends. let until = here.until end ends in let not_now : end ≡ cycle → ⊥ = λ now. none (awaits.0 + 1, rw now at ends) in omega (arith, earlier.1, no_lag);
                  },
                )

            no_begin : Came cycle → (turn : ℕ) × Begins turn cycle → ⊥
            no_begin came begin = by_turn (cases_lt came.0 begin.0)
              where
                by_turn : (came.0 < begin.0) ⊎ (begin.0 ≤ came.0) → ⊥
                by_turn (inl later) =
                    let next = begun_next graph seen count Begins Occurs timeline came.0 begin.0 cycle later begin.1 in
                    let here = came.2 in
                    let until = here.until next.0 next.1 in
                    omega (arith, next.2, no_lag)
                by_turn (inr not_later) =
                    let earlier = came_before came.0 cycle came.1 in
                    let here = earlier.2 in
                    let order = no_later_begin graph seen count Begins Occurs timeline came.0 begin.0 here.start cycle here.begins begin.1 not_later in
                    let from = here.from in
                    omega (arith, earlier.1)

    -- where one has come and an end comes now, the other had come before, in the same turn
    pub first_now : (cycle : ℕ) → Came cycle → OccursIn Occurs first cycle → (turn : ℕ) × CameAlone Occurs turn second first cycle × Occurs turn first cycle
    first_now cycle came occurs = by_end came.1
      where
        here : Occurs came.0 first cycle
        here =
            let same : came.0 ≡ occurs.0 = one_turn graph seen count Begins Occurs timeline (lag (graph.tail first)) came.0 occurs.0 cycle came.2 (first_in occurs.0 cycle occurs.1) in
            rw same (occurs.1)

        by_end : One came.0 cycle → (turn : ℕ) × CameAlone Occurs turn second first cycle × Occurs turn first cycle
        by_end (inl alone) = absurd (let once = timeline.once came.0 first alone.0.0 cycle alone.0.2 here in omega (arith, alone.0.1))
        by_end (inr alone) = (came.0, alone, here)

    pub second_now : (cycle : ℕ) → Came cycle → OccursIn Occurs second cycle → (turn : ℕ) × CameAlone Occurs turn first second cycle × Occurs turn second cycle
    second_now cycle came occurs = by_end came.1
      where
        here : Occurs came.0 second cycle
        here =
            let same : came.0 ≡ occurs.0 = one_turn graph seen count Begins Occurs timeline (lag (graph.tail first)) came.0 occurs.0 cycle came.2 (second_in occurs.0 cycle occurs.1) in
            rw same (occurs.1)

        by_end : One came.0 cycle → (turn : ℕ) × CameAlone Occurs turn first second cycle × Occurs turn second cycle
        by_end (inl alone) = (came.0, alone, here)
        by_end (inr alone) = absurd (let once = timeline.once came.0 second alone.0.0 cycle alone.0.2 here in omega (arith, alone.0.1))

    pub both_now : (cycle : ℕ) → OccursIn Occurs first cycle → OccursIn Occurs second cycle → (turn : ℕ) × Occurs turn first cycle × Occurs turn second cycle
    both_now cycle one other =
        let same : other.0 ≡ one.0 = one_turn graph seen count Begins Occurs timeline (lag (graph.tail first)) other.0 one.0 cycle (second_in other.0 cycle other.1) (first_in one.0 cycle one.1) in
        (one.0, one.1, rw same at (other.1))

    -- what the net of the join shows
    abbrev Meets : (cycle : ℕ) → Type 0
    Meets cycle =
        (OccursIn Occurs first cycle × OccursIn Occurs second cycle)
        ⊎ (Came cycle × (OccursIn Occurs first cycle ⊎ OccursIn Occurs second cycle))

    pub join_right : (cycle : ℕ) → cycle < count → PulseIsRight Occurs machine cycle first → PulseIsRight Occurs machine cycle second → KnowsBegin cycle → RegistersAreRight graph seen Begins Occurs machine cycle node (Join first second) → PulseIsRight Occurs machine cycle node
    join_right cycle within first_right second_right begin register_right =
        same_bit (pulse_as graph seen count Begins Occurs timeline machine machine_is cycle node live (Join first second) form_is)
        (same_fact there (λ occurs. back occurs.0 ((as_join occurs.0).0 occurs.1))
        (reflects_or (reflects_and first_right second_right) (reflects_and (bit_right cycle begin register_right) (reflects_or first_right second_right))))
      where
        as_join : (turn : ℕ) → (Occurs turn node cycle → OccursAs seen Begins Occurs turn node cycle (Join first second)) × (OccursAs seen Begins Occurs turn node cycle (Join first second) → Occurs turn node cycle)
        as_join turn = occurs_as graph seen count Begins Occurs timeline machine machine_is turn node cycle live within (Join first second) form_is

        there : Meets cycle → OccursIn Occurs node cycle
        there (inl both) = let now = both_now cycle both.0 both.1 in (now.0, (as_join now.0).1 (cycle, cycle, omega arith, now.1, now.2))
        there (inr came) = by_end came.1
          where
            by_end : OccursIn Occurs first cycle ⊎ OccursIn Occurs second cycle → OccursIn Occurs node cycle
            by_end (inl occurs) =
                let now = first_now cycle came.0 occurs in let before = now.1.0 in
                (now.0, (as_join now.0).1 (cycle, before.0, omega (arith, before.1), now.2, before.2))
            by_end (inr occurs) =
                let now = second_now cycle came.0 occurs in let before = now.1.0 in
                (now.0, (as_join now.0).1 (before.0, cycle, omega (arith, before.1), before.2, now.2))

        back : (turn : ℕ) → OccursAs seen Begins Occurs turn node cycle (Join first second) → Meets cycle
        back turn both = by_times (cases_lt both.0 cycle) (cases_lt both.1 cycle)
          where
            by_times : (both.0 < cycle) ⊎ (cycle ≤ both.0) → (both.1 < cycle) ⊎ (cycle ≤ both.1) → Meets cycle
            by_times (inl first_before) (inl second_before) = absurd (omega (arith, both.2))
            by_times (inl first_before) (inr second_after) =
                let same : both.1 ≡ cycle = omega (arith, both.2) in
                let now : Occurs turn second cycle = rw same at (both.4) in
                inr ((turn, inl ((both.0, first_before, both.3), λ earlier before occurs. let once = timeline.once turn second earlier cycle occurs now in omega arith), second_in turn cycle now), inr (turn, now))
            by_times (inr first_after) (inl second_before) =
                let same : both.0 ≡ cycle = omega (arith, both.2) in
                let now : Occurs turn first cycle = rw same at (both.3) in
                inr ((turn, inr ((both.1, second_before, both.4), λ earlier before occurs. let once = timeline.once turn first earlier cycle occurs now in omega arith), first_in turn cycle now), inl (turn, now))
            by_times (inr first_after) (inr second_after) =
                let same : both.0 ≡ cycle = omega (arith, both.2) in
                let also_same : both.1 ≡ cycle = omega (arith, both.2) in
                inl ((turn, rw same at (both.3)), (turn, rw also_same at (both.4)))
