-- The graph of two turns occurs as the two turns do.
--
-- Each turn by itself is as in the graph of one. The second begins with the node of the end of the first: where that comes within
-- the list, the next turn begins there, and nowhere else.
use Rattle.std.proofs.Common.{◌≡◌, ℕ, ◌⊎◌, inl, inr, arith, sym, ◌∙◌, ap, subst, Bool, true, false, List, [], Option, Some}
use Rattle.order_rules.specs.Form.{Form, Same}
use Rattle.order_rules.specs.Standing.{map_form, IsPoint}
use Rattle.core_term.specs.Inputs.{Inputs}
use Rattle.core_term.specs.Ends.{Sees}
use Rattle.core_term.specs.Lists.{Has}
use Rattle.core_term.specs.Term.{Term}
use Rattle.core_term.specs.Turns.{begins}
use Rattle.run_laws.specs.TurnLaws.{times, ObeysRules}
use Rattle.core_term.specs.Points.{Spot, forms}
use Rattle.core_term.specs.Order.{Point, point, IsFormed, HasForm}
use Rattle.core_term.specs.Numbering.{Numbered}
use Rattle.core_term.specs.Occurs.{Occurrence, At}
use Rattle.run_laws.proofs.turn_points.Order.{next_from, next_to}
use Rattle.run_laws.proofs.turn_points.TurnRules.{obeys_rules}
use Rattle.event_graph.specs.declared.node.Arm.{Arm}
use Rattle.event_graph.specs.Times.{Given, time_by, AreTimes}
use Rattle.event_points.specs.Owned.{begin_of, end_of}
use Rattle.event_points.specs.Nodes.{twice, node_of, arms_of, turn_number}
use Rattle.event_points.specs.TurnTimes.{OccurTwice, IsTurnOf, OccursWith, turn_of}
use Rattle.event_points.proofs.OneTurn.{head_lies}
use Rattle.event_points.proofs.Along.{All, all_at, term_end}
use Rattle.event_points.proofs.Twice as twice_proof
use Rattle.event_points.proofs.TurnTimes as turn
use Rattle.event_points.proofs.Decided.{is_turn}

module _ (inputs : Inputs) (view : Sees) (body : Term) (numbered : Numbered [] 0 body) (i : ℕ) (g : Given) (begin : begins inputs view body i ≡ Some (g.start 0))
    (of_turns : (late : Bool) → IsTurnOf inputs view body (turn_of i late) (turn_number late) (λ b. node_of body (point late b)) g) (time : ℕ → Option ℕ) (are : AreTimes (twice body) g time) where
  abbrev node : Bool → Spot → ℕ
  node late b = node_of body (point late b)

  abbrev arms : Bool → Spot → List Arm
  arms late b = arms_of body (point late b)

  abbrev at : Bool → Spot → Occurrence
  at late = times inputs view body (turn_of i late)

  obeys : (late : Bool) → ObeysRules inputs view body (turn_of i late)
  obeys late = obeys_rules inputs view body numbered (turn_of i late)

  told : (late : Bool) (b : Spot) (f : Form Spot) → IsFormed (forms body) b f
      → ((c : Spot) × (f ≡ Same c) × (node late b ≡ node late c)) ⊎ (time (node late b) ≡ time_by g time (node late b) (arms late b) (map_form (node late) f))
  told late b f formed =
      elim (twice_proof.own_step body numbered late b f formed) [
        | inl k ↦ inl k
        | inr o ↦ inr (rw (← o.0, ← o.1) (are (node late b) (twice_proof.node_within body numbered late b f formed)))
      ]

  given : (late : Bool) → turn.IsTurn (at late) body (turn_number late) (node late) (arms late) g
  given late = is_turn inputs view body numbered (turn_of i late) (turn_number late) (node late) (arms late) (twice_proof.lies_in body numbered late) g (of_turns late)

  abbrev Occurs : Bool → Spot → Type 0
  Occurs late = turn.Occurs inputs.count (at late) body numbered (turn_number late) (node late) (arms late) g time (obeys late).rule (given late) (twice_proof.lies_in body numbered late) (told late)

  all_from : (late : Bool) → Occurs late (begin_of body) → All (Occurs late) (forms body)
  all_from late = turn.all_occur inputs.count (at late) body numbered (turn_number late) (node late) (arms late) g time (obeys late).rule (given late) (twice_proof.lies_in body numbered late) (told late)

  no_arms : (late : Bool) (x : Arm) → Has (arms late (begin_of body)) x → ⊥
  no_arms late x h =
      let none = (head_lies (turn_number late) (arms late) [] body (twice_proof.lies_in body numbered late)).term_begin in
      let P : List Arm → Type 0 = λ z. Has z x in
      let k : Has [] x = subst P none h in
      elim k [ ]

  -- the first turn
  begins_at : at false (begin_of body) ≡ At (g.start 0)
  begins_at = (obeys false).begin (g.start 0) begin

  start_is : time (node false (begin_of body)) ≡ Some (g.start 0)
  start_is =
      let first : time 0 ≡ Some (g.start 0) = are 0 (omega arith) in
      ap time (twice_proof.start_node body numbered) ∙ first

  first_begins : Occurs false (begin_of body)
  first_begins = record {
    up = λ t e. let z : At (g.start 0) ≡ At t = sym begins_at ∙ e in let q : g.start 0 ≡ t = cc in start_is ∙ ap (λ (y : ℕ). Some y) q;
    down = λ t e l. let z : Some (g.start 0) ≡ Some t = sym start_is ∙ e in let q : g.start 0 ≡ t = cc in begins_at ∙ ap (λ (y : ℕ). At y) q;
    sided = λ t e x h. absurd (no_arms false x h);
  }

  first_occurs : All (Occurs false) (forms body)
  first_occurs = all_from false first_begins

  -- the second turn begins where the first ends
  end_occurs : Occurs false (end_of body)
  end_occurs = term_end (Occurs false) body first_occurs

  second_begins : Occurs true (begin_of body)
  second_begins = record {
    up = λ t e. ap time (twice_proof.next_node body numbered) ∙ end_occurs.up t (next_from inputs view body numbered (begins inputs view body i) t ((obeys true).begin_back t e));
    down = λ t e l.
        let ended = end_occurs.down t (sym (ap time (twice_proof.next_node body numbered)) ∙ e) l in
        (obeys true).begin t (next_to inputs view body numbered (begins inputs view body i) t l ended);
    sided = λ t e x h. absurd (no_arms true x h);
  }

  second_occurs : All (Occurs true) (forms body)
  second_occurs = all_from true second_begins

  all_occur : (late : Bool) → All (Occurs late) (forms body)
  all_occur false = first_occurs
  all_occur true = second_occurs

  point_occurs : (b : Point) (f : Form Point) → HasForm body b f → Occurs b.late b.spot
  point_occurs b f h =
      let P : Point → Type 0 = λ z. Occurs z.late z.spot in
      elim (twice_proof.seen_as body numbered b f h) [
        | inl k ↦ subst P (sym k) first_begins
        | inr j ↦ elim j [ inl k ↦ subst P (sym k) second_begins | inr k ↦ all_at (Occurs b.late) (forms body) (all_occur b.late) b.spot k.0 k.1 ]
      ]

  pub occurs : (b : Point) → IsPoint Point (HasForm body) b → OccursWith inputs.count (times inputs view body (turn_of i b.late) b.spot) (time (node_of body b))
  occurs b p = let k = point_occurs b p.0 p.1 in record { up = k.up; down = k.down }

pub occur : (body : Term) → Numbered [] 0 body → OccurTwice body (twice body) (node_of body)
occur body numbered inputs view i given begin turns time are b is = occurs inputs view body numbered i given begin turns time are b is
