-- Nodes that stand for the points of one turn draw the turn.
--
-- A node that stands for points has one of them whose form it has, and all of them come together, since they are reached from one
-- point by points of the form Same. So what the text says of that point holds of the node, and the nodes of a point's predecessors
-- draw points that come with them.
use Rattle.std.proofs.Common.{not, ◌≡◌, ℕ, ◌⊎◌, inl, inr, refl, sym, ◌∙◌, ap, subst, Bool, true, false, List, [], Option, Some, None}
use Rattle.order_rules.specs.Form.{Form, Start, Same, After, Sync, Join, Side, Merge}
use Rattle.order_rules.specs.Standing.{map_form, Chain, stop, same, IsPoint, AllOf}
use Rattle.core_term.specs.Inputs.{Inputs}
use Rattle.core_term.specs.Term.{Term, Act, Cycle, Set, Send, Recv, If, When, Block, Wait, Pure, Nothing, site, head}
use Rattle.core_term.specs.Stands.{Stands}
use Rattle.core_term.specs.Acts.{OnPort}
use Rattle.core_term.specs.Points.{Spot, TermBegin, TermEnd, End, NoSide, ◌is◌, forms}
use Rattle.core_term.specs.Order.{IsFormed}
use Rattle.core_term.specs.Graph.{HasFormOnce, StandsOnce}
use Rattle.core_term.specs.Occurs.{SameRule}
use Rattle.run_laws.specs.TurnLaws.{times}
use Rattle.core_term.specs.Reread.{deciding}
use Rattle.run_laws.proofs.turn_points.Text.{one_term}
use Rattle.run_laws.proofs.turn_points.TurnRules.{obeys_rules}
use Rattle.turn_pulses.specs.TurnGraph.{TurnGraph}
use Rattle.turn_pulses.specs.PulseMachine.{Seen}
use Rattle.turn_machine.specs.TailEnds.{TailEnds, tail_ends, is_tail}
use Rattle.turn_machine.specs.Draws.{ComeTogether, IsEndedBy, IsSideOf, OfAct, IsDrawn, Draws}
use Rattle.turn_machine.specs.OneTurn.{IsTurnBody, drawn_point, point_or, is_some, turn_points, point_of, turn_graph, SeesSides, SeesTurn, HasNode}
use Rattle.turn_machine.proofs.TailEnds.{tail_ends_are}
use Rattle.turn_machine.proofs.TailRules.{is_no_chain, TailRule, tail_rule, tail_rules}
use Rattle.turn_machine.proofs.TextRules.{BeginsSide, StandsAt, TextRule, text_rule, text_rules}
use Rattle.turn_machine.proofs.DrawnPoints.{DrawnBy, is_drawn, is_found}

module _ (body : Term) (body_is : IsTurnBody body) (form : ℕ → Form ℕ) (apart : ℕ → ℕ → Bool) (node_of : Spot → ℕ) (once : StandsOnce body form apart node_of) where
  abbrev graph : TurnGraph
  graph = turn_graph body form node_of

  abbrev tail : TailEnds
  tail = tail_ends body

  -- the point of a node
  abbrev drawn : (node : ℕ) → Spot
  drawn = point_of body form node_of

  abbrev pub Point : Spot → Type 0
  Point = IsPoint Spot (HasFormOnce body)

  abbrev pub Has : Spot → Form Spot → Type 0
  Has = HasFormOnce body

  pub text : (point : Spot) (form_of : Form Spot) → IsFormed (forms body) point form_of → TextRule body point form_of
  text point form_of formed =
      text_rule body (forms body) point form_of formed (text_rules body [] body body_is.cycles (λ point form_of formed. formed) (λ acts term stands. stands))

  pub tail_of : (point : Spot) (form_of : Form Spot) → IsFormed (forms body) point form_of → TailRule tail point form_of
  tail_of point form_of formed =
      tail_rule tail (forms body) point form_of formed (tail_rules tail [] 0 body body_is.numbered body_is.tail (tail_ends_are body body_is.numbered) (λ variable scoped names. elim scoped [ ]))

  -- the forms of one turn as a list
  listed : (point : Spot) (form_of : Form Spot) → Has point form_of → IsFormed (turn_points body) point form_of
  listed point Start has = inl (rw has refl)
  listed point (Same from) has = inr has
  listed point (After delay from) has = inr has
  listed point (Sync from) has = inr has
  listed point (Join first second) has = inr has
  listed point (Side from) has = inr has
  listed point (Merge first second) has = inr has

  first_is : (point : Spot) (form_of : Form Spot) → (TermBegin (site (head body)) is Start) ≡ (point is form_of) → (point ≡ TermBegin (site (head body))) × (form_of ≡ Start)
  first_is point form_of same_one = (sym (ap (λ formed. formed.spot) same_one), sym (ap (λ formed. formed.form) same_one))

  pub has_form : (point : Spot) (form_of : Form Spot) → IsFormed (turn_points body) point form_of → Has point form_of
  has_form point form_of (inl same_one) = let first = first_is point form_of same_one in rw (first.1) (first.0)
  has_form point form_of (inr formed) = by_form form_of formed
    where
      by_form : (form_of : Form Spot) → IsFormed (forms body) point form_of → Has point form_of
      by_form Start formed = absurd (text point Start formed)
      by_form (Same from) formed = formed
      by_form (After delay from) formed = formed
      by_form (Sync from) formed = formed
      by_form (Join first second) formed = formed
      by_form (Side from) formed = formed
      by_form (Merge first second) formed = formed

  -- the node of a point has the form of some point whose node it is
  pub record IsRooted (point : Spot) : Type 0 where
    pub root : Spot
    pub form_of : Form Spot
    pub has : Has root form_of
    pub at : node_of root ≡ node_of point
    pub mapped : map_form node_of form_of ≡ form (node_of point)

  rooted_with : {point other : Spot} → node_of point ≡ node_of other → IsRooted other → IsRooted point
  rooted_with same_node rooted = record { root = rooted.root; form_of = rooted.form_of; has = rooted.has; at = rooted.at ∙ sym same_node; mapped = rooted.mapped ∙ ap form (sym same_node) }

  rooted_by : {root point : Spot} → Chain Spot Has root point → (form_of : Form Spot) → Has root form_of → map_form node_of form_of ≡ form (node_of point) → IsRooted point
  rooted_by {root = root} stop form_of has mapped = record { root = root; form_of = form_of; has = has; at = refl; mapped = mapped }
  rooted_by {point = point} (same {c = from} has_same chain) form_of has mapped = by_step (once.stands.step point (Same from) has_same) (λ mapped. rooted_by chain form_of has mapped)
    where
      by_step : ((other : Spot) × (Same from ≡ Same other) × (node_of point ≡ node_of other)) ⊎ (form (node_of point) ≡ Same (node_of from)) → (map_form node_of form_of ≡ form (node_of from) → IsRooted from) → IsRooted point
      by_step (inl shares) before =
          let same_point : from ≡ shares.0 = let holds = shares.1 in cc in
          let same_node : node_of point ≡ node_of from = shares.2 ∙ ap node_of (sym same_point) in
          rooted_with same_node (before (mapped ∙ ap form same_node))
      by_step (inr holds) before = record { root = point; form_of = Same from; has = has_same; at = refl; mapped = sym holds }

  rooted : (point : Spot) → Point point → IsRooted point
  rooted point is_point = let root = once.stands.root point is_point (form (node_of point)) refl in rooted_by root.2 root.1 root.3 root.4

  pub live_point : (point : Spot) → Point point → graph.live (node_of point) ≡ true
  live_point point is_point = let root = rooted point is_point in is_found form node_of (turn_points body) (node_of point) root.root root.form_of (listed root.root root.form_of root.has) root.at root.mapped

  -- what a live node draws
  pub drawing : (node : ℕ) → graph.live node ≡ true → DrawnBy form node_of (turn_points body) node (drawn node)
  drawing node live = by_option (drawn_point form node_of node (turn_points body)) refl live
    where
      by_option : (option : Option Spot) → drawn_point form node_of node (turn_points body) ≡ option → is_some option ≡ true → DrawnBy form node_of (turn_points body) node (point_or (TermBegin (site (head body))) option)
      by_option None found some = absurd cc
      by_option (Some point) found some = is_drawn form node_of (turn_points body) node point found

  -- a point and the point that its node draws are reached from one point
  near : (point : Spot) → Point point → (root : Spot) × Chain Spot Has root (drawn (node_of point)) × Chain Spot Has root point
  near point is_point =
      let by = drawing (node_of point) (live_point point is_point) in
      once.stands.one (drawn (node_of point)) point (by.form_of, has_form (drawn (node_of point)) by.form_of by.formed) is_point by.at

  chain_tail : {root point : Spot} → Chain Spot Has root point → is_tail tail point ≡ is_tail tail root
  chain_tail stop = refl
  chain_tail {point = point} (same {c = from} has_same chain) = tail_of point (Same from) has_same ∙ chain_tail chain

  pub near_tail : (point : Spot) → Point point → is_tail tail (drawn (node_of point)) ≡ is_tail tail point
  near_tail point is_point = let root = near point is_point in chain_tail root.1 ∙ sym (chain_tail root.2)

  pub predecessors : (point : Spot) (form_of : Form Spot) → Has point form_of → AllOf Point form_of
  predecessors point form_of has = once.stands.pred point form_of has

  -- a join of the tail is the end of a chain
  chain_end : (point first second : Spot) → IsFormed (forms body) point (Join first second) → not (is_tail tail point) ≡ false → is_no_chain point ≡ false
  chain_end point first second formed keeps = by_kind (is_no_chain point) refl
    where
      of_tail : (of : Bool) → is_tail tail point ≡ of → not of ≡ false → is_tail tail point ≡ true
      of_tail true holds keeps = holds
      of_tail false holds keeps = absurd cc

      by_kind : (no_chain : Bool) → is_no_chain point ≡ no_chain → is_no_chain point ≡ false
      by_kind false holds = holds
      by_kind true holds =
          let rule = tail_of point (Join first second) formed in
          let of = of_tail (is_tail tail point) refl keeps in
          absurd (let impossible : true ≡ false = sym of ∙ (rule.1 ∙ rule.2 holds) in cc)

  module _ (inputs : Inputs) (registers : ℕ → ℕ → ℕ) (decision : ℕ → ℕ → Bool) where
    abbrev Together : Spot → Spot → Type 0
    Together = ComeTogether inputs (deciding registers decision) body

    chain_together : {root point : Spot} → Chain Spot Has root point → Together point root
    chain_together stop turn cycle within = ((λ comes. comes), (λ comes. comes))
    chain_together {point = point} (same {c = from} has_same chain) turn cycle within =
        let rule : SameRule inputs.count (times inputs (deciding registers decision) body turn point) (times inputs (deciding registers decision) body turn from) =
        (obeys_rules inputs (deciding registers decision) body body_is.numbered turn).rule point (Same from) has_same in
        let before = chain_together chain turn cycle within in
        ((λ comes. before.0 (rule.up cycle comes)), (λ comes. rule.down cycle within (before.1 comes)))

    near_together : (point : Spot) → Point point → Together (drawn (node_of point)) point
    near_together point is_point turn cycle within =
        let root = near point is_point in
        let one = chain_together root.1 turn cycle within in
        let other = chain_together root.2 turn cycle within in
        ((λ comes. other.1 (one.0 comes)), (λ comes. one.1 (other.0 comes)))

    pub has_node : (point : Spot) → Point point → HasNode inputs registers decision body form node_of point
    has_node point is_point = record { live = live_point point is_point; together = near_together point is_point }

    module _ (seen : Seen) (sees : SeesTurn inputs decision body node_of seen) where
      -- all acts at a site are one
      of_act : (place : ℕ) (Asked Holds : Act → Type 0) → ((acts : List Act) (term : Term) → Stands [] body acts term → Asked (head term) → Holds (head term)) → StandsAt body place Asked → OfAct body place Holds
      of_act place Asked Holds gives there acts term stands at_place =
          let one : there.1 ≡ term = one_term there.2 stands 0 body_is.numbered (there.3 ∙ sym at_place) in
          let holds = gives there.0 there.1 there.2 there.4 in
          subst (λ term. Holds (head term)) one holds

      ended_by : (node place : ℕ) → node_of (End place) ≡ node → StandsAt body place (λ act. (port : ℕ) × OnPort act port) → OfAct body place (λ act. IsEndedBy inputs act (seen.wire node))
      ended_by node place at there acts term stands at_place =
          let port = of_act place (λ act. (port : ℕ) × OnPort act port) (λ act. (port : ℕ) × OnPort act port) (λ acts term stands on. on) there acts term stands at_place in
          (port.0, port.1, λ cycle. let wire = sees.wires acts term port.0 stands port.1 cycle in let same_node : node_of (End (site (head term))) ≡ node = ap (λ n. node_of (End n)) at_place ∙ at in rw same_node at wire)

      side_in : (node : ℕ) (point : Spot) (act : Act) → node_of point ≡ node → BeginsSide act point → SeesSides decision node_of seen.chosen act → IsSideOf decision act point (seen.chosen node)
      side_in node point (If p condition first second valued) at (inl begins) sides =
          let same_node : node_of (TermBegin (site (head first))) ≡ node = ap node_of (sym begins) ∙ at in let chosen = sides.0 in rw begins (inl (refl, rw same_node at chosen))
      side_in node point (If p condition first second valued) at (inr begins) sides =
          let same_node : node_of (TermBegin (site (head second))) ≡ node = ap node_of (sym begins) ∙ at in let chosen = sides.1 in rw begins (inr (refl, rw same_node at chosen))
      side_in node point (When p condition first) at (inl begins) sides =
          let same_node : node_of (TermBegin (site (head first))) ≡ node = ap node_of (sym begins) ∙ at in let chosen = sides.0 in rw begins (refl, rw same_node at chosen)
      side_in node point (When p condition first) at (inr begins) sides =
          let same_node : node_of (NoSide p) ≡ node = ap node_of (sym begins) ∙ at in let chosen = sides.1 in rw begins (refl, rw same_node at chosen)
      side_in node point (Cycle p count) at begins sides = elim begins [ ]
      side_in node point (Set p register value) at begins sides = elim begins [ ]
      side_in node point (Send p port value) at begins sides = elim begins [ ]
      side_in node point (Recv p port) at begins sides = elim begins [ ]
      side_in node point (Block p inner) at begins sides = elim begins [ ]
      side_in node point (Wait p variable) at begins sides = elim begins [ ]
      side_in node point (Pure p value) at begins sides = elim begins [ ]
      side_in node point (Nothing p) at begins sides = elim begins [ ]

      side_of : (node place : ℕ) (point : Spot) → node_of point ≡ node → StandsAt body place (λ act. BeginsSide act point) → OfAct body place (λ act. IsSideOf decision act point (seen.chosen node))
      side_of node place point at there =
          of_act place (λ act. BeginsSide act point) (λ act. IsSideOf decision act point (seen.chosen node)) (λ acts term stands begins. side_in node point (head term) at begins (sees.sides acts term stands)) there

      abbrev IsDrawnAs : (node : ℕ) → Form ℕ → Type 0
      IsDrawnAs node form_is = IsDrawn inputs (deciding registers decision) decision body graph seen drawn node form_is

      node_drawn : (node : ℕ) → graph.live node ≡ true → IsDrawnAs node (form node)
      node_drawn node live =
          subst (IsDrawnAs node) by.mapped (by_form by.form_of (has_form (drawn node) by.form_of by.formed) (predecessors (drawn node) by.form_of (has_form (drawn node) by.form_of by.formed)))
        where
          by : DrawnBy form node_of (turn_points body) node (drawn node)
          by = drawing node live

          by_form : (form_of : Form Spot) → Has (drawn node) form_of → AllOf Point form_of → IsDrawnAs node (map_form node_of form_of)
          by_form Start has points = has
          by_form (Same from) has points = (from, near_together from points, has)
          by_form (After delay from) has points = (from, near_together from points, has)
          by_form (Sync from) has points =
              let place = text (drawn node) (Sync from) has in
              let is_end = place.1 in
              let at_end : node_of (End place.0) ≡ node = ap node_of (sym is_end) ∙ by.at in
              (place.0, subst (Together (drawn (node_of from))) place.2 (near_together from points), is_end, ended_by node place.0 at_end place.3)
          by_form (Side from) has points =
              let place = text (drawn node) (Side from) has in
              (place.0, subst (Together (drawn (node_of from))) place.1 (near_together from points), subst (λ begin. IsFormed (forms body) (drawn node) (Side begin)) place.1 has, side_of node place.0 (drawn node) by.at place.2)
          by_form (Join first second) has points =
              (first, second, near_together first points.0, near_together second points.1, has, λ keeps. text (drawn node) (Join first second) has (chain_end (drawn node) first second has keeps))
          by_form (Merge first second) has points = (first, second, near_together first points.0, near_together second points.1, has)

      pub draws : Point (TermEnd (site (head body))) → Draws inputs (deciding registers decision) decision body graph seen drawn
      draws last = record { nodes = node_drawn; last = near_together (TermEnd (site (head body))) last; tail = λ node. refl }
