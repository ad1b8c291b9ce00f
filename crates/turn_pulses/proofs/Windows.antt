-- No two turns share a cycle, but for the end of one on which the next begins.
--
-- Turns follow one another without a gap: each turn that begins has all turns before it begun, and ended. The cycles of a turn
-- are those from its begin on and before the next begin; for the nodes of the tail they are counted one later, since such a
-- node comes after the begin and may fall on the end. Counted so, each cycle is of one turn, and the nodes of one kind keep
-- the order of their turns.
use Rattle.std.proofs.Common.{◌≡◌, ℕ, ◌+◌, ◌-◌, ◌<◌, ◌≤◌, arith, refl, Bool, true, false, if◌then◌else◌, zero, suc}
use Rattle.turn_pulses.specs.TurnGraph.{TurnGraph}
use Rattle.turn_pulses.specs.PulseMachine.{Seen}
use Rattle.turn_pulses.specs.Timeline.{IsTimeline}

-- how much later the cycles of a node are counted, by whether it is of the tail
abbrev pub lag : Bool → ℕ
lag tail = if tail then 1 else 0

-- a cycle of a turn, counted so much later
pub record InTurn (Begins : ℕ → ℕ → Type 0) (late turn cycle : ℕ) : Type 0 where
  pub start : ℕ
  pub begins : Begins turn start
  pub from : start + late ≤ cycle
  pub until : (next : ℕ) → Begins (turn + 1) next → cycle < next + late

module _ (graph : TurnGraph) (seen : Seen) (count : ℕ) (Begins : ℕ → ℕ → Type 0) (Occurs : ℕ → ℕ → ℕ → Type 0) (timeline : IsTimeline graph seen count Begins Occurs) where
  -- each earlier turn has begun, and no later
  pub begun : (turn more start : ℕ) → Begins (turn + more) start → (earlier : ℕ) × Begins turn earlier × (earlier ≤ start)
  begun turn zero start begins = (start, (let same : turn + 0 ≡ turn = omega arith in rw same at begins), omega arith)
  begun turn (suc more) start begins =
      let same : turn + suc more ≡ turn + more + 1 = omega arith in
      let next : Begins (turn + more + 1) start = rw same at begins in
      let before = timeline.since (turn + more) graph.last start (timeline.ended (turn + more) start next) in
      let found = begun turn more before.0 before.1 in
      (found.0, found.1, omega (arith, before.2, found.2))

  pub begun_next : (turn later start : ℕ) → turn < later → Begins later start → (next : ℕ) × Begins (turn + 1) next × (next ≤ start)
  begun_next turn later start below begins =
      let same : later ≡ turn + 1 + (later - (turn + 1)) = omega arith in
      let split : Begins (turn + 1 + (later - (turn + 1))) start = rw same at begins in
      begun (turn + 1) (later - (turn + 1)) start split

  not_later : (late turn later cycle : ℕ) → InTurn Begins late turn cycle → InTurn Begins late later cycle → turn < later → ⊥
  not_later late turn later cycle here there below =
      let next = begun_next turn later there.start below there.begins in
      let before = here.until next.0 next.1 in
      let after = there.from in
      omega (arith, next.2)

  -- a cycle is of one turn
  pub one_turn : (late turn other cycle : ℕ) → InTurn Begins late turn cycle → InTurn Begins late other cycle → turn ≡ other
  one_turn late turn other cycle here there =
      let not_below : turn < other → ⊥ = not_later late turn other cycle here there in
      let not_above : other < turn → ⊥ = not_later late other turn cycle there here in
      omega arith

  -- a node occurs in the cycles of its turn
  pub occurs_in : (turn node cycle : ℕ) → Occurs turn node cycle → InTurn Begins (lag (graph.tail node)) turn cycle
  occurs_in turn node cycle occurs = by_kind (graph.tail node) refl
    where
      by_kind : (tail : Bool) → graph.tail node ≡ tail → InTurn Begins (lag tail) turn cycle
      by_kind true is_tail =
          let begin = timeline.since turn node cycle occurs in
          let after = timeline.tail_since turn node cycle begin.0 is_tail occurs begin.1 in
          record { start = begin.0; begins = begin.1; from = omega arith; until = λ next ends. let before = timeline.by_end turn node cycle next occurs ends in omega arith }
      by_kind false not_tail =
          let begin = timeline.since turn node cycle occurs in
          record { start = begin.0; begins = begin.1; from = omega (arith, begin.2); until = λ next ends. let before = timeline.before_end turn node cycle next not_tail occurs ends in omega arith }

  -- what lies between two cycles of a turn is of that turn
  pub in_between : (late turn low high cycle : ℕ) → InTurn Begins late turn low → InTurn Begins late turn high → low ≤ cycle → cycle ≤ high → InTurn Begins late turn cycle
  in_between late turn low high cycle at_low at_high above below = record {
    start = at_low.start;
    begins = at_low.begins;
    from = let from = at_low.from in omega arith;
    until = λ next ends. let until = at_high.until next ends in omega arith;
  }

  -- any node of a later turn occurs no earlier than one of an earlier turn
  pub later_turn_is_later : (turn later node other cycle after : ℕ) → Occurs turn node cycle → Occurs later other after → turn < later → cycle ≤ after
  later_turn_is_later turn later node other cycle after occurs occurs_after below =
      let begin = timeline.since later other after occurs_after in
      let next = begun_next turn later begin.0 below begin.1 in
      let ended = timeline.by_end turn node cycle next.0 occurs next.1 in
      omega (arith, next.2, begin.2)

  begins_once : (turn start other : ℕ) → Begins turn start → Begins turn other → start ≡ other
  begins_once zero start other begins again =
      let is_first = timeline.first_only start begins in
      let also_first = timeline.first_only other again in
      omega arith
  begins_once (suc turn) start other begins again =
      let same : suc turn ≡ turn + 1 = omega arith in
      timeline.once turn graph.last start other (timeline.ended turn start (rw same at begins)) (timeline.ended turn other (rw same at again))

  -- after the begin of a turn neither it nor an earlier one begins
  pub no_later_begin : (turn earlier start other : ℕ) → Begins turn start → Begins earlier other → earlier ≤ turn → other ≤ start
  no_later_begin turn earlier start other begins begins_earlier below =
      let same : turn ≡ earlier + (turn - earlier) = omega arith in
      let split : Begins (earlier + (turn - earlier)) start = rw same at begins in
      let found = begun earlier (turn - earlier) start split in
      let once = begins_once earlier found.0 other found.1 begins_earlier in
      omega (arith, found.2)
