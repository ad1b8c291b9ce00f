-- The turns of a body are a timeline of each graph that draws it.
--
-- A node occurs when its point comes. That it occurs as its form says is the local rule of the point, with the points that stand in
-- for those that its form names; where it falls in its turn is known from the turns. The hard case is a join that does not forget: it
-- is the join of a chain whose parts begin together, so where one end has come the chain's first act has run, and in a turn that ends
-- the chain has ended, for which both ends must have come.
use Rattle.std.proofs.Common.{◌≡◌, ℕ, ◌+◌, ◌<◌, ◌⊎◌, inl, inr, ◌↔◌, arith, refl, sym, ◌∙◌, ap, [], Bool, true, false, if◌then◌else◌, nat_lt, Some, None}
use Rattle.std.proofs.lemmas.Bool.Decides.{nat_tests}
use Rattle.order_rules.specs.Form.{Form, Start, Same, After, Sync, Join, Side, Merge}
use Rattle.core_term.specs.Inputs.{Inputs}
use Rattle.core_term.specs.Term.{Term}
use Rattle.core_term.specs.Ends.{Sees}
use Rattle.core_term.specs.Points.{Spot, TermBegin, TermEnd, End, forms}
use Rattle.core_term.specs.Occurs.{Occurrence, At, begin_at, MergeRule}
use Rattle.core_term.specs.Numbering.{Numbered}
use Rattle.core_term.specs.Order.{IsFormed}
use Rattle.core_term.specs.Tail.{IsTail}
use Rattle.core_term.specs.Reread.{deciding}
use Rattle.turn_pulses.specs.TurnGraph.{TurnGraph}
use Rattle.turn_pulses.specs.PulseMachine.{Seen}
use Rattle.turn_pulses.specs.Timeline.{IsTimeline, OccursAs, Elapses, HasBothOrNone}
use Rattle.turn_machine.specs.TailEnds.{is_tail, tail_ends}
use Rattle.turn_machine.specs.Draws.{IsChainJoin, IsDrawn, Draws}
use Rattle.turn_machine.proofs.Turns.{at, Begins, Bounds, RunsAt, runs_at, since_begin, begins_within, turn_ends, next_begins, bounds, term_ends, tail_since, rule, turn_begins, turn_begun}
use Rattle.turn_machine.proofs.Waits.{port_ended, port_ends}
use Rattle.turn_machine.proofs.Sides.{side_came, side_will_come}

module _ (inputs : Inputs) (registers : ℕ → ℕ → ℕ) (decision : ℕ → ℕ → Bool) (body : Term) (numbered : Numbered [] 0 body) (tails : IsTail body) where
  abbrev view : Sees
  view = deciding registers decision

  abbrev comes_at : (turn : ℕ) → Spot → Occurrence
  comes_at turn = at inputs registers decision body numbered tails turn

  abbrev Begun : (turn cycle : ℕ) → Type 0
  Begun turn cycle = Begins inputs registers decision body numbered tails turn cycle

  -- both ends of a chain's join come in a turn that ends
  both_come : (turn end : ℕ) → Begun (turn + 1) end → (join first rest : Spot) → IsFormed (forms body) join (Join first rest) → IsChainJoin body join first rest
      → (cycle : ℕ) → (comes_at turn first ≡ At cycle) ⊎ (comes_at turn rest ≡ At cycle) → (one other : ℕ) × (comes_at turn first ≡ At one) × (comes_at turn rest ≡ At other)
  both_come turn end next join first rest formed chain cycle comes = both (first_runs comes)
    where
      first_runs : (comes_at turn first ≡ At cycle) ⊎ (comes_at turn rest ≡ At cycle) → RunsAt inputs registers decision body numbered tails turn chain.0
      first_runs (inl comes) = runs_at inputs registers decision body numbered tails turn cycle (End chain.0) (rw (chain.3) at comes)
      first_runs (inr comes) =
          let rest_comes : comes_at turn (TermEnd chain.1) ≡ At cycle = rw (chain.4) at comes in
          let rest_runs = runs_at inputs registers decision body numbered tails turn cycle (TermEnd chain.1) rest_comes in
          let rest_begins : comes_at turn (TermBegin chain.1) ≡ At rest_runs.begin = ap begin_at rest_runs.runs in
          let chain_begins = (rule inputs registers decision body numbered tails turn (TermBegin chain.1) (Same (TermBegin chain.0)) chain.5).up rest_runs.begin rest_begins in
          runs_at inputs registers decision body numbered tails turn rest_runs.begin (TermBegin chain.0) chain_begins

      both : RunsAt inputs registers decision body numbered tails turn chain.0 → (one other : ℕ) × (comes_at turn first ≡ At one) × (comes_at turn rest ≡ At other)
      both runs =
          let chain_ends = term_ends inputs registers decision body numbered tails turn chain.0 end next runs in
          let ends = (rule inputs registers decision body numbered tails turn join (Join first rest) formed).up chain_ends.0 (rw (chain.2) (chain_ends.1)) in
          (ends.0, ends.1, ends.3, ends.4)

  module _ (graph : TurnGraph) (seen : Seen) (point : ℕ → Spot) (draws : Draws inputs view decision body graph seen point) where
    abbrev pub Occurs : (turn node cycle : ℕ) → Type 0
    Occurs turn node cycle = comes_at turn (point node) ≡ At cycle

    occurs_as : (turn node cycle : ℕ) → graph.live node ≡ true → cycle < inputs.count → Occurs turn node cycle ↔ OccursAs seen Begun Occurs turn node cycle (graph.form node)
    occurs_as turn node cycle live within = by_form (graph.form node) (draws.nodes node live)
      where
        by_form : (form : Form ℕ) → IsDrawn inputs view decision body graph seen point node form → Occurs turn node cycle ↔ OccursAs seen Begun Occurs turn node cycle form
        by_form Start drawn =
            (λ comes. turn_begun inputs registers decision body numbered tails turn cycle (rw drawn at comes), λ begun. rw drawn (turn_begins inputs registers decision body numbered tails turn cycle begun))
        by_form (Same from) drawn =
            let same = rule inputs registers decision body numbered tails turn (point node) (Same drawn.0) drawn.2 in
            ((λ comes. (drawn.1 turn cycle within).1 (same.up cycle comes)), (λ comes. same.down cycle within ((drawn.1 turn cycle within).0 comes)))
        by_form (After delay from) drawn =
            let after = rule inputs registers decision body numbered tails turn (point node) (After delay drawn.0) drawn.2 in (
              (λ comes. let start = after.up cycle comes in (start.0, start.1, (drawn.1 turn start.0 (omega (arith, start.1))).1 start.2)),
              (λ started. let comes = after.down started.0 (omega (arith, started.1)) ((drawn.1 turn started.0 (omega (arith, started.1))).0 started.2) in rw (started.1) at comes),
            )
        by_form (Sync from) drawn = (ended, ends)
          where
            ended : Occurs turn node cycle → OccursAs seen Begun Occurs turn node cycle (Sync from)
            ended comes =
                let start = port_ended inputs registers decision body numbered tails turn cycle drawn.0 (seen.wire node) drawn.3 (rw (drawn.2) at comes) in
                (start.0, start.2.0, (drawn.1 turn start.0 (omega (arith, start.2.0))).1 start.1, start.2.1, start.2.2)

            ends : OccursAs seen Begun Occurs turn node cycle (Sync from) → Occurs turn node cycle
            ends waited =
                rw (drawn.2) (port_ends inputs registers decision body numbered tails turn cycle drawn.0 (seen.wire node) drawn.3 within waited.0
                ((drawn.1 turn waited.0 (omega (arith, waited.1))).0 waited.2) (waited.1, waited.3, waited.4))
        by_form (Side from) drawn = (
          (λ comes. let came = side_came inputs registers decision body numbered tails turn cycle drawn.0 (point node) (seen.chosen node) drawn.3 drawn.2 comes in ((drawn.1 turn cycle within).1 came.0, came.1)),
          (λ both. side_will_come inputs registers decision body numbered tails turn cycle drawn.0 (point node) (seen.chosen node) drawn.3 ((drawn.1 turn cycle within).0 both.0) both.1),
        )
        by_form (Join first second) drawn =
            let join = rule inputs registers decision body numbered tails turn (point node) (Join drawn.0 drawn.1) drawn.4 in (
              (λ comes. let ends = join.up cycle comes in (ends.0, ends.1, ends.2, (drawn.2 turn ends.0 (omega (arith, ends.2))).1 ends.3, (drawn.3 turn ends.1 (omega (arith, ends.2))).1 ends.4)),
              (λ ends.
                  let comes = join.down ends.0 ends.1 (omega (arith, ends.2)) (omega (arith, ends.2)) ((drawn.2 turn ends.0 (omega (arith, ends.2))).0 ends.3) ((drawn.3 turn ends.1 (omega (arith, ends.2))).0 ends.4) in
                  rw (ends.2) at comes),
            )
        by_form (Merge first second) drawn = (came, will_come)
          where
            merge : MergeRule inputs.count (comes_at turn (point node)) (comes_at turn drawn.0) (comes_at turn drawn.1)
            merge = rule inputs registers decision body numbered tails turn (point node) (Merge drawn.0 drawn.1) drawn.4

            came : Occurs turn node cycle → Occurs turn first cycle ⊎ Occurs turn second cycle
            came comes = by_side (merge.up cycle comes)
              where
                by_side : (comes_at turn drawn.0 ≡ At cycle) ⊎ (comes_at turn drawn.1 ≡ At cycle) → Occurs turn first cycle ⊎ Occurs turn second cycle
                by_side (inl side) = inl ((drawn.2 turn cycle within).1 side)
                by_side (inr side) = inr ((drawn.3 turn cycle within).1 side)

            will_come : Occurs turn first cycle ⊎ Occurs turn second cycle → Occurs turn node cycle
            will_come (inl side) = merge.first cycle within ((drawn.2 turn cycle within).0 side)
            will_come (inr side) = merge.second cycle within ((drawn.3 turn cycle within).0 side)

    elapses : (turn node : ℕ) → graph.live node ≡ true → Elapses Occurs inputs.count turn node (graph.form node)
    elapses turn node live = by_form (graph.form node) (draws.nodes node live)
      where
        by_form : (form : Form ℕ) → IsDrawn inputs view decision body graph seen point node form → Elapses Occurs inputs.count turn node form
        by_form (After delay from) drawn =
            λ start within comes. let after = rule inputs registers decision body numbered tails turn (point node) (After delay drawn.0) drawn.2 in after.down start within ((drawn.1 turn start within).0 comes)
        by_form Start drawn = tt
        by_form (Same from) drawn = tt
        by_form (Sync from) drawn = tt
        by_form (Side from) drawn = tt
        by_form (Join first second) drawn = tt
        by_form (Merge first second) drawn = tt

    bounds_of : (turn node cycle end : ℕ) → Occurs turn node cycle → Begun (turn + 1) end → Bounds (graph.tail node) cycle end
    bounds_of turn node cycle end comes next =
        let same : is_tail (tail_ends body) (point node) ≡ graph.tail node = sym (draws.tail node) in rw same at (bounds inputs registers decision body numbered tails turn cycle end (point node) comes next)

    both_or_none : (turn node end : ℕ) → graph.live node ≡ true → Begun (turn + 1) end → HasBothOrNone graph Occurs turn node (graph.form node)
    both_or_none turn node end live next = by_form (graph.form node) (draws.nodes node live)
      where
        end_within : end < inputs.count
        end_within = begins_within inputs registers decision body numbered tails (turn + 1) end next

        by_form : (form : Form ℕ) → IsDrawn inputs view decision body graph seen point node form → HasBothOrNone graph Occurs turn node form
        by_form Start drawn = tt
        by_form (Same from) drawn = tt
        by_form (After delay from) drawn = tt
        by_form (Sync from) drawn = tt
        by_form (Side from) drawn = tt
        by_form (Merge first second) drawn = tt
        by_form (Join first second) drawn = λ keeps. (from_first keeps, from_second keeps)
          where
            first_comes : (one : ℕ) → Occurs turn first one → comes_at turn drawn.0 ≡ At one
            first_comes one comes = (drawn.2 turn one (let bound = bounds_of turn first one end comes next in let by = bound.by in omega (arith, end_within))).0 comes

            second_comes : (other : ℕ) → Occurs turn second other → comes_at turn drawn.1 ≡ At other
            second_comes other comes = (drawn.3 turn other (let bound = bounds_of turn second other end comes next in let by = bound.by in omega (arith, end_within))).0 comes

            both : (keeps : graph.forgets node ≡ false) → (cycle : ℕ) → (comes_at turn drawn.0 ≡ At cycle) ⊎ (comes_at turn drawn.1 ≡ At cycle) → (one other : ℕ) × Occurs turn first one × Occurs turn second other
            both keeps cycle comes =
                let ends = both_come turn end next (point node) drawn.0 drawn.1 drawn.4 (drawn.5 keeps) cycle comes in
                (ends.0, ends.1, (drawn.2 turn ends.0 (in_list drawn.0 ends.0 ends.2)).1 ends.2, (drawn.3 turn ends.1 (in_list drawn.1 ends.1 ends.3)).1 ends.3)
              where
                in_list : (spot : Spot) (cycle : ℕ) → comes_at turn spot ≡ At cycle → cycle < inputs.count
                in_list spot cycle comes = let bound = bounds inputs registers decision body numbered tails turn cycle end spot comes next in let by = bound.by in omega (arith, end_within)

            from_first : graph.forgets node ≡ false → (one : ℕ) → Occurs turn first one → (other : ℕ) × Occurs turn second other
            from_first keeps one comes = let ends = both keeps one (inl (first_comes one comes)) in (ends.1, ends.3)

            from_second : graph.forgets node ≡ false → (other : ℕ) → Occurs turn second other → (one : ℕ) × Occurs turn first one
            from_second keeps other comes = let ends = both keeps other (inr (second_comes other comes)) in (ends.0, ends.2)

    pub timeline : IsTimeline graph seen inputs.count Begun Occurs
    timeline = record {
      first = λ within. let in_list : nat_lt 0 inputs.count ≡ true = grind (arith, nat_tests) in rw in_list refl;
      first_only = λ cycle begun. at_zero (nat_lt 0 inputs.count) cycle begun;
      next = λ turn cycle within comes. next_begins inputs registers decision body numbered tails turn cycle within ((draws.last turn cycle within).0 comes);
      ended = λ turn cycle begun. (draws.last turn cycle (begins_within inputs registers decision body numbered tails (turn + 1) cycle begun)).1 (turn_ends inputs registers decision body numbered tails turn cycle begun);
      once = λ turn node cycle other comes again. let same : At cycle ≡ At other = sym comes ∙ again in cc;
      occurs = occurs_as;
      elapses = elapses;
      since = λ turn node cycle comes. since_begin inputs registers decision body numbered tails turn cycle (point node) comes;
      by_end = λ turn node cycle end comes next. let bound = bounds_of turn node cycle end comes next in bound.by;
      before_end = λ turn node cycle end not_tail comes next. let bound = bounds_of turn node cycle end comes next in bound.inner not_tail;
      tail_since = λ turn node cycle start is comes begun. tail_since inputs registers decision body numbered tails turn cycle start (point node) (sym (draws.tail node) ∙ is) comes begun;
      both_or_none = both_or_none;
    }
      where
        at_zero : (in_list : Bool) (cycle : ℕ) → (if in_list then Some 0 else None) ≡ Some cycle → cycle ≡ 0
        at_zero true cycle begun = let same : 0 ≡ cycle = cc in sym same
        at_zero false cycle begun = absurd cc
