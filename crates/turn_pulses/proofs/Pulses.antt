-- Every pulse is right, in every cycle of the list.
--
-- By induction on cycles, with what the registers say as what is kept. Inside a cycle the nodes of the tail come first, in order:
-- they ask nothing of the begin. The last of them tells whether a turn begins; then all nodes follow in order. So the apparent
-- circle, that the end of a turn is the begin of the next, is none.
use Rattle.std.proofs.Common.{◌≡◌, ℕ, ◌+◌, ◌<◌, ◌≤◌, ◌⊎◌, inl, inr, ◌||◌, arith, refl, true, false, zero, suc}
use Rattle.std.proofs.lemmas.Bool.{cases_lt}
use Rattle.order_rules.specs.Form.{Form, Start, Same, After, Sync, Join, Side, Merge}
use Rattle.turn_pulses.specs.TurnGraph.{TurnGraph, IsTurnGraph, IsPredecessor, IsNode, IsTailNode}
use Rattle.turn_pulses.specs.PulseMachine.{Seen, PulseMachine, IsPulseMachine, turn_begins}
use Rattle.turn_pulses.specs.Timeline.{IsTimeline}
use Rattle.turn_pulses.proofs.Reflects.{Reflects, fails, same_fact, reflects_or}
use Rattle.turn_pulses.proofs.Occurrences.{OccursIn, PulseIsRight, Pending, OneCame, RegistersAreRight}
use Rattle.turn_pulses.proofs.Local.{begin_right, start_right, same_right, side_right, merge_right, sync_right, sync_kept}
use Rattle.turn_pulses.proofs.Delays.{after_right, after_kept}
use Rattle.turn_pulses.proofs.Joins.{join_right}
use Rattle.turn_pulses.proofs.JoinBits.{join_kept}

module _ (graph : TurnGraph) (seen : Seen) (count : ℕ) (Begins : ℕ → ℕ → Type 0) (Occurs : ℕ → ℕ → ℕ → Type 0) (timeline : IsTimeline graph seen count Begins Occurs) (graph_is : IsTurnGraph graph) (machine : PulseMachine) (machine_is : IsPulseMachine graph seen machine) where
  -- the registers of all live nodes are right
  abbrev pub AllKept : (cycle : ℕ) → Type 0
  AllKept cycle = (node : ℕ) → graph.live node ≡ true → RegistersAreRight graph seen Begins Occurs machine cycle node (graph.form node)

  -- what is known when a node is valued: whether a turn begins, unless it is of the tail
  abbrev Knows : (cycle node : ℕ) → Type 0
  Knows cycle node = Reflects ((turn : ℕ) × Begins turn cycle) (turn_begins graph machine cycle) ⊎ (graph.tail node ≡ true)

  -- a node whose predecessors are right
  one_right : (cycle node : ℕ) → graph.live node ≡ true → cycle < count → AllKept cycle → Knows cycle node
      → ((before : ℕ) → IsPredecessor graph before node → Knows cycle before → PulseIsRight Occurs machine cycle before) → PulseIsRight Occurs machine cycle node
  one_right cycle node live within kept knows below = at_form (graph.form node) refl (graph_is.nodes node live) (graph_is.tails node live) (kept node live)
    where
      at_form : (form : Form ℕ) → graph.form node ≡ form → IsNode graph node (graph.form node) → (graph.tail node ≡ true → IsTailNode graph node (graph.form node))
          → RegistersAreRight graph seen Begins Occurs machine cycle node (graph.form node) → PulseIsRight Occurs machine cycle node
      at_form form form_is node_is tail_is registers = by_form form form_is (rw form_is at node_is) (rw form_is at tail_is) (rw form_is at registers) knows
        where
          by_form : (form : Form ℕ) → graph.form node ≡ form → IsNode graph node form → (graph.tail node ≡ true → IsTailNode graph node form)
              → RegistersAreRight graph seen Begins Occurs machine cycle node form → Knows cycle node → PulseIsRight Occurs machine cycle node
          by_form Start form_is node_is tail_is registers (inl begin) = start_right graph seen count Begins Occurs timeline machine machine_is cycle node live within form_is begin
          by_form Start form_is node_is tail_is registers (inr tail) = absurd (tail_is tail)
          by_form (Same from) form_is node_is tail_is registers (inl begin) =
              same_right graph seen count Begins Occurs timeline machine machine_is cycle node from live within form_is (below from node_is (inl begin))
          by_form (Same from) form_is node_is tail_is registers (inr tail) =
              same_right graph seen count Begins Occurs timeline machine machine_is cycle node from live within form_is (below from node_is (inr (tail_is tail)))
          by_form (After delay from) form_is node_is tail_is registers known =
              after_right graph seen count Begins Occurs timeline machine machine_is cycle node delay from live within node_is.1 form_is registers
          by_form (Sync from) form_is node_is tail_is registers (inl begin) =
              sync_right graph seen count Begins Occurs timeline machine machine_is cycle node from live within form_is (below from node_is (inl begin)) registers
          by_form (Sync from) form_is node_is tail_is registers (inr tail) = absurd (tail_is tail)
          by_form (Side from) form_is node_is tail_is registers (inl begin) =
              side_right graph seen count Begins Occurs timeline machine machine_is cycle node from live within form_is (below from node_is (inl begin))
          by_form (Side from) form_is node_is tail_is registers (inr tail) = absurd (tail_is tail)
          by_form (Merge first second) form_is node_is tail_is registers (inl begin) =
              merge_right graph seen count Begins Occurs timeline machine machine_is cycle node first second live within form_is (below first node_is.0 (inl begin)) (below second node_is.1 (inl begin))
          by_form (Merge first second) form_is node_is tail_is registers (inr tail) =
              let both = tail_is tail in
              merge_right graph seen count Begins Occurs timeline machine machine_is cycle node first second live within form_is (below first node_is.0 (inr both.0)) (below second node_is.1 (inr both.1))
          by_form (Join first second) form_is node_is tail_is registers (inl begin) =
              join_right graph seen count Begins Occurs timeline machine machine_is node first second live form_is node_is.2 node_is.3 cycle within (below first node_is.0 (inl begin)) (below second node_is.1 (inl begin)) (inl begin) registers
          by_form (Join first second) form_is node_is tail_is registers (inr tail) =
              let both = tail_is tail in
              join_right graph seen count Begins Occurs timeline machine machine_is node first second live form_is node_is.2 node_is.3 cycle within (below first node_is.0 (inr both.0)) (below second node_is.1 (inr both.1)) (inr both.2) registers

  -- in order
  nodes_below : (cycle bound : ℕ) → cycle < count → AllKept cycle → (node : ℕ) → node < bound → graph.live node ≡ true → Knows cycle node → PulseIsRight Occurs machine cycle node
  nodes_below cycle zero within kept node below live knows = absurd (omega arith)
  nodes_below cycle (suc bound) within kept node below live knows =
      one_right cycle node live within kept knows (λ before predecessor known. nodes_below cycle bound within kept before (omega (arith, predecessor.0)) predecessor.1 known)

  node_right : (cycle node : ℕ) → graph.live node ≡ true → cycle < count → AllKept cycle → Knows cycle node → PulseIsRight Occurs machine cycle node
  node_right cycle node live within kept knows = nodes_below cycle (node + 1) within kept node (omega arith) live knows

  begins_right : (cycle : ℕ) → cycle < count → AllKept cycle → Reflects ((turn : ℕ) × Begins turn cycle) (turn_begins graph machine cycle)
  begins_right cycle within kept = begin_right graph seen count Begins Occurs timeline machine machine_is cycle within (node_right cycle graph.last graph_is.last_live within kept (inr graph_is.last_tail))

  -- from cycle to cycle
  next_kept : (cycle : ℕ) → cycle < count → AllKept cycle → AllKept (cycle + 1)
  next_kept cycle within kept node live = at_form (graph.form node) refl (graph_is.nodes node live) (kept node live)
    where
      right : (before : ℕ) → IsPredecessor graph before node → PulseIsRight Occurs machine cycle before
      right before predecessor = node_right cycle before predecessor.1 within kept (inl (begins_right cycle within kept))

      at_form : (form : Form ℕ) → graph.form node ≡ form → IsNode graph node (graph.form node) → RegistersAreRight graph seen Begins Occurs machine cycle node (graph.form node)
          → RegistersAreRight graph seen Begins Occurs machine (cycle + 1) node (graph.form node)
      at_form form form_is node_is registers = rw form_is (by_form form form_is (rw form_is at node_is) (rw form_is at registers))
        where
          by_form : (form : Form ℕ) → graph.form node ≡ form → IsNode graph node form → RegistersAreRight graph seen Begins Occurs machine cycle node form → RegistersAreRight graph seen Begins Occurs machine (cycle + 1) node form
          by_form Start form_is node_is registers = tt
          by_form (Same from) form_is node_is registers = tt
          by_form (After delay from) form_is node_is registers = after_kept graph seen count Begins Occurs timeline machine machine_is cycle node delay from live within form_is (right from node_is.0) registers
          by_form (Sync from) form_is node_is registers = sync_kept graph seen count Begins Occurs timeline machine machine_is cycle node from live within form_is (right from node_is) registers
          by_form (Side from) form_is node_is registers = tt
          by_form (Merge first second) form_is node_is registers = tt
          by_form (Join first second) form_is node_is registers =
              join_kept graph seen count Begins Occurs timeline machine machine_is node first second live form_is node_is.2 node_is.3 cycle (right first node_is.0) (right second node_is.1) (inl (begins_right cycle within kept)) registers

  first_kept : AllKept 0
  first_kept node live = by_form (graph.form node)
    where
      by_form : (form : Form ℕ) → RegistersAreRight graph seen Begins Occurs machine 0 node form
      by_form Start = tt
      by_form (Same from) = tt
      by_form (After delay from) =
          (λ rest positive shows. absurd (let none : machine.counter 0 node ≡ 0 = machine_is.no_count node in omega arith), λ rest positive counts. absurd (omega (arith, counts.2)))
      by_form (Sync from) = fails (λ pending. let before = pending.2 in omega arith) (machine_is.no_bit node)
      by_form (Side from) = tt
      by_form (Merge first second) = tt
      by_form (Join first second) = fails (λ awaits. none awaits.1) (machine_is.no_bit node)
        where
          none : {turn : ℕ} → OneCame Occurs turn first second 0 → ⊥
          none (inl alone) = let before = alone.0.1 in omega arith
          none (inr alone) = let before = alone.0.1 in omega arith

  pub all_kept : (cycle : ℕ) → cycle ≤ count → AllKept cycle
  all_kept zero within = first_kept
  all_kept (suc cycle) within = let same : cycle + 1 ≡ suc cycle = omega arith in rw same at (next_kept cycle (omega arith) (all_kept cycle (omega arith)))

  pub pulse_right : (cycle node : ℕ) → graph.live node ≡ true → cycle < count → PulseIsRight Occurs machine cycle node
  pulse_right cycle node live within = let kept = all_kept cycle (omega arith) in node_right cycle node live within kept (inl (begins_right cycle within kept))

  -- an act is offered: it begins, or its bit is set
  pub offer_right : (cycle node from : ℕ) → graph.live node ≡ true → cycle < count → graph.form node ≡ Sync from
      → Reflects ((turn start : ℕ) × (start ≤ cycle) × Occurs turn from start × ((between : ℕ) → start ≤ between → between < cycle → seen.wire node between ≡ false)) (machine.pulse cycle from || machine.bit cycle node)
  offer_right cycle node from live within form_is =
      let predecessor : IsPredecessor graph from node = rw form_is at (graph_is.nodes node live) in
      let registers : RegistersAreRight graph seen Begins Occurs machine cycle node (Sync from) = rw form_is at (all_kept cycle (omega arith) node live) in
      same_fact there (λ offer. back offer.0 offer.1 offer.2 offer.3 offer.4) (reflects_or (pulse_right cycle from predecessor.1 within) registers)
    where
      there : OccursIn Occurs from cycle ⊎ Pending seen Occurs node from cycle → (turn start : ℕ) × (start ≤ cycle) × Occurs turn from start × ((between : ℕ) → start ≤ between → between < cycle → seen.wire node between ≡ false)
      there (inl begin) = (begin.0, cycle, omega arith, begin.1, λ between above below. absurd (omega arith))
      there (inr pending) = (pending.0, pending.1, omega (arith, pending.2), pending.3, pending.4)

      back : (turn start : ℕ) → start ≤ cycle → Occurs turn from start → ((between : ℕ) → start ≤ between → between < cycle → seen.wire node between ≡ false) → OccursIn Occurs from cycle ⊎ Pending seen Occurs node from cycle
      back turn start by occurs quiet = now_or_before (cases_lt start cycle)
        where
          now_or_before : (start < cycle) ⊎ (cycle ≤ start) → OccursIn Occurs from cycle ⊎ Pending seen Occurs node from cycle
          now_or_before (inl before) = inr (turn, start, before, occurs, quiet)
          now_or_before (inr now) = let same : start ≡ cycle = omega arith in inl (turn, rw same at occurs)
