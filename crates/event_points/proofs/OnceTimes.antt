-- The graph of one turn occurs as the turn does: its start is the begin of the turn, and the rest follows along the forms.
use Rattle.std.proofs.Common.{◌≡◌, ℕ, ◌⊎◌, inl, inr, arith, sym, ◌∙◌, ap, subst, List, [], Option, Some}
use Rattle.order_rules.specs.Form.{Form, Start, Same, After, Sync, Join, Side, Merge}
use Rattle.order_rules.specs.Standing.{map_form, IsPoint}
use Rattle.core_term.specs.Inputs.{Inputs}
use Rattle.core_term.specs.Ends.{Sees}
use Rattle.core_term.specs.Lists.{Has}
use Rattle.core_term.specs.Term.{Term}
use Rattle.core_term.specs.Turns.{begins}
use Rattle.run_laws.specs.TurnLaws.{times}
use Rattle.core_term.specs.Points.{Spot, forms}
use Rattle.core_term.specs.Order.{IsFormed}
use Rattle.core_term.specs.Graph.{HasFormOnce}
use Rattle.core_term.specs.Numbering.{Numbered}
use Rattle.core_term.specs.Occurs.{Occurrence, At}
use Rattle.event_graph.specs.declared.node.Arm.{Arm}
use Rattle.event_graph.specs.Times.{Given, time_by, AreTimes}
use Rattle.event_points.specs.Owned.{begin_of}
use Rattle.event_points.specs.Table.{node_in, arms_in}
use Rattle.event_points.specs.Nodes.{once, first_table}
use Rattle.event_points.specs.TurnTimes.{OccurOnce, IsTurnOf, OccursWith}
use Rattle.event_points.proofs.OneTurn.{head_lies}
use Rattle.event_points.proofs.Along.{All, all_at}
use Rattle.event_points.proofs.Once as once_proof
use Rattle.event_points.proofs.TurnTimes as turn
use Rattle.event_points.proofs.Decided.{is_turn, obeys}

module _ (inputs : Inputs) (view : Sees) (body : Term) (numbered : Numbered [] 0 body) (i : ℕ) (g : Given) (begin : begins inputs view body i ≡ Some (g.start 0)) (of_turn : IsTurnOf inputs view body i 1 (node_in (first_table body)) g) (time : ℕ → Option ℕ) (are : AreTimes (once body) g time) where
  abbrev node : Spot → ℕ
  node = node_in (first_table body)

  abbrev arms : Spot → List Arm
  arms = arms_in 1 (first_table body)

  abbrev at : Spot → Occurrence
  at = times inputs view body i

  told : (b : Spot) (f : Form Spot) → IsFormed (forms body) b f → ((c : Spot) × (f ≡ Same c) × (node b ≡ node c)) ⊎ (time (node b) ≡ time_by g time (node b) (arms b) (map_form node f))
  told b f formed =
      elim (once_proof.own_step body numbered b f formed) [
        | inl k ↦ inl k
        | inr o ↦ inr (rw (← o.0, ← o.1) (are (node b) (once_proof.formed_inside body numbered b f formed)))
      ]

  abbrev Occurs : Spot → Type 0
  Occurs = turn.Occurs inputs.count at body numbered 1 node arms g time (obeys inputs view body numbered i 1 node arms (once_proof.lies_once body numbered) g of_turn).rule (is_turn inputs view body numbered i 1 node arms (once_proof.lies_once body numbered) g of_turn) (once_proof.lies_once body numbered) told

  begins_at : at (begin_of body) ≡ At (g.start 0)
  begins_at = (obeys inputs view body numbered i 1 node arms (once_proof.lies_once body numbered) g of_turn).begin (g.start 0) begin

  start_is : time (node (begin_of body)) ≡ Some (g.start 0)
  start_is =
      let first : time 0 ≡ Some (g.start 0) = are 0 (omega arith) in
      ap time (once_proof.begin_node body numbered) ∙ first

  first_occurs : Occurs (begin_of body)
  first_occurs = record {
    up = λ t e. let z : At (g.start 0) ≡ At t = sym begins_at ∙ e in let q : g.start 0 ≡ t = cc in start_is ∙ ap (λ (y : ℕ). Some y) q;
    down = λ t e l. let z : Some (g.start 0) ≡ Some t = sym start_is ∙ e in let q : g.start 0 ≡ t = cc in begins_at ∙ ap (λ (y : ℕ). At y) q;
    sided = λ t e x h.
        let none = (head_lies 1 arms [] body (once_proof.lies_once body numbered)).term_begin in
        let P : List Arm → Type 0 = λ z. Has z x in
        let k : Has [] x = subst P none h in
        elim k [ ];
  }

  all_occur : All Occurs (forms body)
  all_occur = turn.all_occur inputs.count at body numbered 1 node arms g time (obeys inputs view body numbered i 1 node arms (once_proof.lies_once body numbered) g of_turn).rule (is_turn inputs view body numbered i 1 node arms (once_proof.lies_once body numbered) g of_turn) (once_proof.lies_once body numbered) told first_occurs

  point_occurs : (b : Spot) (f : Form Spot) → HasFormOnce body b f → Occurs b
  point_occurs b Start e = subst Occurs (sym e) first_occurs
  point_occurs b (Same c) k = all_at Occurs (forms body) all_occur b _ k
  point_occurs b (After m c) k = all_at Occurs (forms body) all_occur b _ k
  point_occurs b (Sync c) k = all_at Occurs (forms body) all_occur b _ k
  point_occurs b (Join c e) k = all_at Occurs (forms body) all_occur b _ k
  point_occurs b (Side c) k = all_at Occurs (forms body) all_occur b _ k
  point_occurs b (Merge c e) k = all_at Occurs (forms body) all_occur b _ k

  pub occurs : (b : Spot) → IsPoint Spot (HasFormOnce body) b → OccursWith inputs.count (at b) (time (node b))
  occurs b p = let k = point_occurs b p.0 p.1 in record { up = k.up; down = k.down }

pub occur : (body : Term) → Numbered [] 0 body → OccurOnce body (once body) (node_in (first_table body))
occur body numbered inputs view i given begin turns time are b is = occurs inputs view body numbered i given begin turns time are b is
