-- From what each turn adds to what the elaboration gives.
--
-- The nodes and arms of all points of a turn are read off the table of the body, which is a plan for the whole body. A body has at most
-- 512 acts, so at most 1,534 nodes of its own a turn, and their delays add up to at most 65,535 an act.
use Rattle.std.proofs.Common.{◌≡◌, ℕ, ◌==◌, Bool, true, false, if◌then◌else◌, ◌+◌, ◌<◌, ◌≤◌, arith, refl, sym, ◌∙◌, ap, subst, List, [], ◌∷◌, ◌++◌, length, Some, None, slice_get}
use Rattle.core_term.specs.Term.{Term}
use Rattle.core_term.specs.Order.{point}
use Rattle.core_term.specs.Widths.{Widths}
use Rattle.core_term.specs.Numbering.{size, Numbered}
use Rattle.core_term.specs.declared.term.CoreTerm.{CoreTerm}
use Rattle.core_term.specs.View.{term_of, places_of}
use Rattle.core_term.specs.Body.{IsBody}
use Rattle.event_graph.specs.Event.{Event}
use Rattle.event_graph.specs.Forms.{delays}
use Rattle.elaborator.specs.declared.points.Points.{Points}
use Rattle.elaborator.specs.declared.turn.Turn.{Turn}
use Rattle.event_points.specs.Owned.{owned, count, drawn_all}
use Rattle.event_points.specs.Table.{entries, end_node, node_in, arms_in}
use Rattle.event_points.specs.Nodes.{once, twice, start, first_table, second_table, node_of, turn_number}
use Rattle.event_points.specs.Graphs.{IsGraphOnce, IsGraphTwice}
use Rattle.elaborator.specs.Walk.{Plan, Drawn}
use Rattle.elaborator.specs.Seen.{points_at, body_at, acts_of, body_of}
use Rattle.elaborator.specs.Turns.{TurnIs, TurnDrawn, IsOnce, IsTwice}
use Rattle.event_points.proofs.InTable.{body_told, body_begin, body_end}
use Rattle.core_term.proofs.code_tables.Counted.{counted}
use Rattle.event_points.proofs.Room.{few_nodes}
use Rattle.elaborator.proofs.Plans.{term_early, delays_append}
use Rattle.elaborator.proofs.SidePlans.{length_grown}
use Rattle.event_points.specs.TurnTimes.{OccurOnce, OccurTwice}
use Rattle.event_points.proofs.OnceTimes as once_times
use Rattle.event_points.proofs.TwiceTimes as twice_times
use Rattle.event_points.proofs.Once as once_proof
use Rattle.event_points.proofs.Twice as twice_proof

pub no_widths : Widths
no_widths = record { registers = λ x. 0; ports = λ x. 0; variables = λ x. 0 }

-- of a body of a thread
pub body_few : (w : Widths) (body : CoreTerm) → IsBody body → size (term_of w body) ≤ 512
body_few w body b = let e = counted w body in let f = b.few in omega arith

pub body_small : (w : Widths) (body : CoreTerm) → IsBody body → count (term_of w body) ≤ 1534
body_small w body b = let e = body_few w body b in let f = few_nodes (term_of w body) in omega arith

pub turn_plan : (number begin : ℕ) (old : List Event) (points : List Points) (t : Term) → Numbered [] 0 t → begin < length old → length old + count t ≤ 8192 → size t ≤ length points → Plan number (length old) begin [] points t
turn_plan number begin old points t n b r s =
    let table = entries number (length old) begin [] t in
    record {
      node = node_in table;
      arms = arms_in number table;
      scope = [];
      low = 0;
      numbered = n;
      placed = (body_told number (length old) begin t n).0;
      lies = (body_told number (length old) begin t n).1;
      begin_is = body_begin number (length old) begin t n;
      early = b;
      made = λ y i. elim i [ ];
      sites = omega arith;
      room = r;
    }

pub body_plan : (number begin : ℕ) (old : List Event) (points : List Points) (w : Widths) (body inner : CoreTerm) → inner ≡ body → IsBody body → begin < length old → length old ≤ 4096 → length points ≡ length (places_of body) → Plan number (length old) begin [] points (term_of w inner)
body_plan number begin old points w body inner e b l r s =
    let P : CoreTerm → Type 0 = λ z. Plan number (length old) begin [] points (term_of w z) in
    let f = counted w body in
    let g = body_small w body b in
    subst P (sym e) (turn_plan number begin old points (term_of w body) (b.numbered w) l (omega arith) (omega arith))

pub turn_drawn : (number begin : ℕ) (old new : List Event) (points written : List Points) (w : Widths) (body inner : CoreTerm) (end : ℕ) (turn : Turn) → inner ≡ body → IsBody body → begin < length old → length old ≤ 4096 → length points ≡ length (places_of body)
    → ((w : Widths) (plan : Plan number (length old) begin [] points (term_of w inner)) → Drawn plan old new written end) → turn.acts.items ≡ written → turn.body ≡ record { begin = begin; end = end } → TurnDrawn number begin (term_of w body) old new turn
turn_drawn number begin old new points written w body inner end turn e b l r s d i j =
    let P : CoreTerm → Type 0 = λ z. (w : Widths) (plan : Plan number (length old) begin [] points (term_of w z)) → Drawn plan old new written end in
    let t = term_of w body in
    let f = counted w body in
    let g = body_small w body b in
    let plan : Plan number (length old) begin [] points t = body_plan number begin old points w body body refl b l r s in
    let n = b.numbered w in
    let table = entries number (length old) begin [] t in
    let plan' : Plan number (length old) begin [] points t = record {
      node = node_in table;
      arms = arms_in number table;
      scope = [];
      low = 0;
      numbered = n;
      placed = (body_told number (length old) begin t n).0;
      lies = (body_told number (length old) begin t n).1;
      begin_is = body_begin number (length old) begin t n;
      early = l;
      made = λ y i. elim i [ ];
      sites = omega arith;
      room = omega arith;
    } in
    let k = subst P e d w plan' in
    let h = length_grown (node_in table) (arms_in number table) old new t k.events in
    let q = term_early plan' in
    let v = k.end_is in
    let z : turn.body.end ≡ end = ap (λ (x : Points). x.end) j in
    record {
      events = k.events;
      short = k.short;
      numbered = n;
      few = body_few w body b;
      small = g;
      end_there = omega arith;
      turn_is = record {
        acts = λ p o. ap (λ (x : List Points). slice_get x p) i ∙ k.written.at p (omega arith) (omega arith);
        body = j ∙ rw (k.end_is, body_begin number (length old) begin t n) refl;
      };
    }

grown : (number begin : ℕ) (t : Term) (old new : List Event) (turn : Turn) → TurnDrawn number begin t old new turn → length new ≡ length old + count t
grown number begin t old new turn d = length_grown (node_in (entries number (length old) begin [] t)) (arms_in number (entries number (length old) begin [] t)) old new t d.events

pub room_left : (number begin : ℕ) (t : Term) (old new : List Event) (turn : Turn) → old ≡ start ∷ [] → TurnDrawn number begin t old new turn → (turn.body.end < length new) × (length new ≤ 4096)
room_left number begin t old new turn e d =
    let f = grown number begin t old new turn d in let g : length old ≡ 1 = ap length e in let h = d.small in (d.end_there, omega arith)

pub once_is : (t : Term) (old new graph : List Event) (s : ℕ) (first : Turn) → old ≡ start ∷ [] → s ≡ 0 → TurnDrawn 1 s t old new first → graph ≡ new → IsOnce t (record { graph = graph; first = first; second = None })
once_is t old new graph s first e f d g =
    let P : List Event → Type 0 = λ z. TurnDrawn 1 s t z new first in
    let Q : ℕ → Type 0 = λ z. TurnDrawn 1 z t (start ∷ []) new first in
    let k : TurnDrawn 1 0 t (start ∷ []) new first = subst Q f (subst P e d) in
    let is : graph ≡ once t = g ∙ k.events in
    let S : List Event → Type 0 = λ z. IsGraphOnce t z (node_in (first_table t)) in
    let O : List Event → Type 0 = λ z. OccurOnce t z (node_in (first_table t)) in
    record { graph = is; stands = subst S (sym is) (once_proof.stand t k.numbered); occurs = subst O (sym is) (once_times.occur t k.numbered); acts = λ site within. k.turn_is.acts site within; body = ap (λ (x : Points). Some x) k.turn_is.body }

-- of both turns
twice_acts : (t : Term) (graph : List Event) (first second : Turn) → TurnIs (node_in (first_table t)) t first → TurnIs (node_in (second_table t)) t second
    → (late : Bool) (site : ℕ) → site < size t → acts_of (if turn_number late == 2 then Some second else (if turn_number late == 1 then Some first else None)) site ≡ Some (points_at (λ b. node_of t (point late b)) site)
twice_acts t graph first second one two false site within = one.acts site within
twice_acts t graph first second one two true site within = two.acts site within

twice_body : (t : Term) (graph : List Event) (first second : Turn) → TurnIs (node_in (first_table t)) t first → TurnIs (node_in (second_table t)) t second
    → (late : Bool) → body_of (if turn_number late == 2 then Some second else (if turn_number late == 1 then Some first else None)) ≡ Some (body_at (λ b. node_of t (point late b)) t)
twice_body t graph first second one two false = ap (λ (x : Points). Some x) one.body
twice_body t graph first second one two true = ap (λ (x : Points). Some x) two.body

pub twice_is : (t : Term) (old new last graph : List Event) (s : ℕ) (first second : Turn) → old ≡ start ∷ [] → s ≡ 0 → TurnDrawn 1 s t old new first → TurnDrawn 2 first.body.end t new last second → graph ≡ last → IsTwice t (record { graph = graph; first = first; second = Some second })
twice_is t old new last graph s first second e f d d' g =
    let P : List Event → Type 0 = λ z. TurnDrawn 1 s t z new first in
    let Q : ℕ → Type 0 = λ z. TurnDrawn 1 z t (start ∷ []) new first in
    let k : TurnDrawn 1 0 t (start ∷ []) new first = subst Q f (subst P e d) in
    let R : List Event → Type 0 = λ z. TurnDrawn 2 first.body.end t z last second in
    let begin_is : first.body.end ≡ end_node 1 0 t = ap (λ (x : Points). x.end) k.turn_is.body ∙ body_end 1 1 0 t k.numbered in
    let T : ℕ → Type 0 = λ z. TurnDrawn 2 z t (once t) last second in
    let h : TurnDrawn 2 (end_node 1 0 t) t (once t) last second = subst T begin_is (subst R k.events d') in
    let l : length (once t) ≡ 1 + count t = once_proof.length_once t k.numbered in
    let U : ℕ → Type 0 = λ z. (last ≡ once t ++ drawn_all (node_in (entries 2 z (end_node 1 0 t) [] t)) (arms_in 2 (entries 2 z (end_node 1 0 t) [] t)) (owned t)) × TurnIs (node_in (entries 2 z (end_node 1 0 t) [] t)) t second in
    let both : (last ≡ twice t) × TurnIs (node_in (second_table t)) t second = subst U l (h.events, h.turn_is) in
    let is : graph ≡ twice t = g ∙ both.0 in
    let S : List Event → Type 0 = λ z. IsGraphTwice t z (node_of t) in
    let O : List Event → Type 0 = λ z. OccurTwice t z (node_of t) in
    record { graph = is; stands = subst S (sym is) (twice_proof.stand t k.numbered); occurs = subst O (sym is) (twice_times.occur t k.numbered); acts = twice_acts t graph first second k.turn_is both.1; body = twice_body t graph first second k.turn_is both.1 }

pub once_short : (t : Term) (old new graph : List Event) (s : ℕ) (first : Turn) → old ≡ start ∷ [] → TurnDrawn 1 s t old new first → graph ≡ new → delays graph < 1073741824
once_short t old new graph s first e d g =
    let ts = drawn_all (node_in (entries 1 (length old) s [] t)) (arms_in 1 (entries 1 (length old) s [] t)) (owned t) in
    let f = delays_append old ts in
    let h : delays old ≡ 0 = ap delays e in
    let i : delays graph ≡ delays (old ++ ts) = ap delays (g ∙ d.events) in
    let j = d.short in
    let k = d.few in
    omega arith

pub twice_short : (t : Term) (old new last graph : List Event) (s b : ℕ) (first second : Turn) → old ≡ start ∷ [] → TurnDrawn 1 s t old new first → TurnDrawn 2 b t new last second → graph ≡ last → delays graph < 1073741824
twice_short t old new last graph s b first second e d d' g =
    let ts = drawn_all (node_in (entries 1 (length old) s [] t)) (arms_in 1 (entries 1 (length old) s [] t)) (owned t) in
    let us = drawn_all (node_in (entries 2 (length new) b [] t)) (arms_in 2 (entries 2 (length new) b [] t)) (owned t) in
    let f = delays_append old ts in
    let f' = delays_append new us in
    let h : delays old ≡ 0 = ap delays e in
    let i : delays new ≡ delays (old ++ ts) = ap delays d.events in
    let i' : delays graph ≡ delays (new ++ us) = ap delays (g ∙ d'.events) in
    let j = d.short in
    let j' = d'.short in
    let k = d.few in
    omega arith
