-- The nodes of the tail are those that are reached back from the end of the body.
--
-- There: by induction over the parts of the tail; from the end of a part its own ends are reached, and what is no part of the tail has no
-- end of it. Back: the predecessors of a node of the tail are of the tail, unless the node is a delay.
use Rattle.std.proofs.Common.{◌≡◌, ℕ, ◌+◌, ◌<◌, ◌⊎◌, inl, inr, arith, refl, sym, ◌∙◌, ap, subst, Bool, true, false, List, [], ◌∷◌, ◌++◌}
use Rattle.order_rules.specs.Form.{Form, Same, Join, Merge}
use Rattle.core_term.specs.Term.{Term, One, Then, Both, Act, Cycle, Set, Send, Recv, If, When, Block, Wait, Pure, Nothing, site, head}
use Rattle.core_term.specs.Numbering.{size, act_size, Numbered, NumberedAct}
use Rattle.core_term.specs.Tail.{IsTail, IsTailAct}
use Rattle.core_term.specs.Points.{Spot, TermBegin, TermEnd, End, Formed, forms, act_forms}
use Rattle.core_term.specs.Order.{IsFormed}
use Rattle.core_term.specs.Graph.{StandsOnce}
use Rattle.core_term.proofs.code_tables.FirstSites.{act_site, act_size_positive}
use Rattle.run_laws.proofs.graph_tables.OfText.{in_left, in_right}
use Rattle.turn_pulses.specs.TurnGraph.{TurnGraph, IsNode, IsTailNode, IsTurnGraph}
use Rattle.turn_machine.specs.TailEnds.{TailEnds, AreTailEnds, AreTailEndsIn, NoTailEnds, tail_ends, is_tail}
use Rattle.turn_machine.specs.OneTurn.{IsTurnBody, turn_points, point_of, turn_graph}
use Rattle.turn_machine.specs.Reached.{IsReached, at_last, by_same, by_join, by_other_join, by_merge, by_other_merge}
use Rattle.turn_machine.proofs.TailEnds.{tail_ends_are}
use Rattle.turn_machine.proofs.TailRules.{of_range}
use Rattle.turn_machine.proofs.Formed.{last_is_point}
use Rattle.turn_machine.proofs.DrawnPoints.{DrawnBy}
use Rattle.turn_machine.proofs.Drawing.{drawing}
use Rattle.turn_machine.proofs.TurnGraphs.{is_turn_graph}

-- each of the points is such
abbrev Every : (Spot → Type 0) → List Formed → Type 0
Every Holds [] = Unit {0}
Every Holds (formed ∷ rest) = Holds formed.spot × Every Holds rest

every_append : (Holds : Spot → Type 0) (these those : List Formed) → Every Holds these → Every Holds those → Every Holds (these ++ those)
every_append Holds [] those every more = more
every_append Holds (formed ∷ these) those every more = (every.0, every_append Holds these those every.1 more)

every_map : (Holds Follows : Spot → Type 0) (these : List Formed) → ((point : Spot) → Holds point → Follows point) → Every Holds these → Every Follows these
every_map Holds Follows [] follows every = tt
every_map Holds Follows (formed ∷ these) follows every = (follows formed.spot every.0, every_map Holds Follows these follows every.1)

every_is : (Holds : Spot → Type 0) (these : List Formed) (point : Spot) (form : Form Spot) → IsFormed these point form → Every Holds these → Holds point
every_is Holds [] point form formed every = elim formed [ ]
every_is Holds (first ∷ rest) point form (inl same) every = let HoldsOf : Formed → Type 0 = λ z. Holds z.spot in subst HoldsOf same every.0
every_is Holds (first ∷ rest) point form (inr formed) every = every_is Holds rest point form formed every.1

module _ (ends : TailEnds) where
  abbrev IsOuter : Spot → Type 0
  IsOuter point = is_tail ends point ≡ false

  -- where no end is of the tail
  mutual
    outer : (acts : List Act) (low : ℕ) (term : Term) → Numbered acts low term → NoTailEnds ends low (low + size term) → Every IsOuter (forms term)
    outer acts low (One act) numbered none =
        let at_low : site act ≡ low = act_site acts low act numbered in
        let positive : 0 < act_size act = act_size_positive act in
        let here = none (site act) (omega arith) (omega arith) in
        (refl, (here.1, act_outer acts low act numbered here.0 (of_range none (low + 1) (low + act_size act) (omega arith) (omega arith))))
    outer acts low (Then act rest) numbered none =
        let at_low : site act ≡ low = act_site acts low act numbered.0 in
        let positive : 0 < act_size act = act_size_positive act in
        let here = none (site act) (omega arith) (omega arith) in (
          refl,
          (
            refl,
            (
              here.1,
              every_append IsOuter (act_forms act) (forms rest)
                  (act_outer acts low act numbered.0 here.0 (of_range none (low + 1) (low + act_size act) (omega arith) (omega arith)))
                  (outer (act ∷ acts) (low + act_size act) rest numbered.1 (of_range none (low + act_size act) (low + act_size act + size rest) (omega arith) (omega arith))),
            ),
          ),
        )
    outer acts low (Both act rest) numbered none =
        let at_low : site act ≡ low = act_site acts low act numbered.0 in
        let positive : 0 < act_size act = act_size_positive act in
        let here = none (site act) (omega arith) (omega arith) in (
          refl,
          (
            refl,
            (
              here.1,
              every_append IsOuter (act_forms act) (forms rest)
                  (act_outer acts low act numbered.0 here.0 (of_range none (low + 1) (low + act_size act) (omega arith) (omega arith)))
                  (outer (act ∷ acts) (low + act_size act) rest numbered.1 (of_range none (low + act_size act) (low + act_size act + size rest) (omega arith) (omega arith))),
            ),
          ),
        )

    act_outer : (acts : List Act) (low : ℕ) (act : Act) → NumberedAct acts low act → ends.act (site act) ≡ false → NoTailEnds ends (low + 1) (low + act_size act) → Every IsOuter (act_forms act)
    act_outer acts low (Cycle p count) numbered not_tail none = (not_tail, tt)
    act_outer acts low (Set p register value) numbered not_tail none = (not_tail, tt)
    act_outer acts low (Send p port value) numbered not_tail none = (not_tail, tt)
    act_outer acts low (Recv p port) numbered not_tail none = (not_tail, tt)
    act_outer acts low (If p condition first second valued) numbered not_tail none = (
      refl,
      (
        refl,
        (
          not_tail,
          every_append IsOuter (forms first) (forms second)
              (outer acts (low + 1) first numbered.1 (of_range none (low + 1) (low + 1 + size first) (omega arith) (omega arith)))
              (outer acts (low + (1 + size first)) second numbered.2 (of_range none (low + (1 + size first)) (low + (1 + size first) + size second) (omega arith) (omega arith))),
        ),
      ),
    )
    act_outer acts low (When p condition first) numbered not_tail none = (refl, (refl, (not_tail, outer acts (low + 1) first numbered.1 (of_range none (low + 1) (low + 1 + size first) (omega arith) (omega arith)))))
    act_outer acts low (Block p inner) numbered not_tail none = (refl, (not_tail, outer acts (low + 1) inner numbered.1 (of_range none (low + 1) (low + 1 + size inner) (omega arith) (omega arith))))
    act_outer acts low (Wait p variable) numbered not_tail none = (not_tail, tt)
    act_outer acts low (Pure p value) numbered not_tail none = (not_tail, tt)
    act_outer acts low (Nothing p) numbered not_tail none = (not_tail, tt)

module _ (body : Term) (body_is : IsTurnBody body) (form : ℕ → Form ℕ) (apart : ℕ → ℕ → Bool) (node_of : Spot → ℕ) (once : StandsOnce body form apart node_of) where
  abbrev graph : TurnGraph
  graph = turn_graph body form node_of

  abbrev tail : TailEnds
  tail = tail_ends body

  abbrev Reached : ℕ → Type 0
  Reached node = IsReached form (node_of (TermEnd (site (head body)))) node

  -- from a node that is reached its predecessors are
  same_step : (point from : Spot) → IsFormed (forms body) point (Same from) → Reached (node_of point) → Reached (node_of from)
  same_step point from formed reached = by_step (once.stands.step point (Same from) formed)
    where
      by_step : ((other : Spot) × (Same from ≡ Same other) × (node_of point ≡ node_of other)) ⊎ (form (node_of point) ≡ Same (node_of from)) → Reached (node_of from)
      by_step (inl shares) =
          let same_point : from ≡ shares.0 = (let is = shares.1 in cc) in let same_node : node_of point ≡ node_of from = shares.2 ∙ ap node_of (sym same_point) in subst Reached same_node reached
      by_step (inr is) = by_same is reached

  join_step : (point first second : Spot) → IsFormed (forms body) point (Join first second) → Reached (node_of point) → Reached (node_of first) × Reached (node_of second)
  join_step point first second formed reached = by_step (once.stands.step point (Join first second) formed)
    where
      by_step : ((other : Spot) × (Join first second ≡ Same other) × (node_of point ≡ node_of other)) ⊎ (form (node_of point) ≡ Join (node_of first) (node_of second)) → Reached (node_of first) × Reached (node_of second)
      by_step (inl shares) = absurd (let impossible = shares.1 in cc)
      by_step (inr is) = (by_join is reached, by_other_join is reached)

  merge_step : (point first second : Spot) → IsFormed (forms body) point (Merge first second) → Reached (node_of point) → Reached (node_of first) × Reached (node_of second)
  merge_step point first second formed reached = by_step (once.stands.step point (Merge first second) formed)
    where
      by_step : ((other : Spot) × (Merge first second ≡ Same other) × (node_of point ≡ node_of other)) ⊎ (form (node_of point) ≡ Merge (node_of first) (node_of second)) → Reached (node_of first) × Reached (node_of second)
      by_step (inl shares) = absurd (let impossible = shares.1 in cc)
      by_step (inr is) = (by_merge is reached, by_other_merge is reached)

  -- an end of the tail is reached
  abbrev IsFound : Spot → Type 0
  IsFound point = is_tail tail point ≡ true → Reached (node_of point)

  outer_found : (point : Spot) → is_tail tail point ≡ false → IsFound point
  outer_found point is_not is = absurd (let impossible : true ≡ false = sym is ∙ is_not in cc)

  abbrev FormsOf : List Formed → Type 0
  FormsOf these = (point : Spot) (form_of : Form Spot) → IsFormed these point form_of → IsFormed (forms body) point form_of

  mutual
    reach : (acts : List Act) (low : ℕ) (term : Term) → Numbered acts low term → IsTail term → AreTailEnds tail term → FormsOf (forms term) → Reached (node_of (TermEnd (site (head term)))) → Every IsFound (forms term)
    reach acts low (One act) numbered is_last ends_are formed reached =
        ((λ is. absurd cc), ((λ is. reached), act_reach acts low act numbered is_last ends_are.2 (λ point form_of inner. formed point form_of (inr (inr inner))) (same_step (TermEnd (site act)) (End (site act)) (formed _ _ (inr (inl refl))) reached)))
    reach acts low (Then act rest) numbered is_last ends_are formed reached =
        let at_low : site act ≡ low = act_site acts low act numbered.0 in (
          (λ is. absurd cc),
          (
            (λ is. absurd cc),
            (
              (λ is. reached),
              every_append IsFound (act_forms act) (forms rest)
                  (every_map (IsOuter tail) IsFound (act_forms act) outer_found (act_outer tail acts low act numbered.0 ends_are.1 (λ place above below. ends_are.2 place (omega arith) (omega arith))))
                  (reach (act ∷ acts) (low + act_size act) rest numbered.1 is_last ends_are.3 (λ point form_of inner. formed point form_of (inr (inr (inr (in_right (act_forms act) (forms rest) point form_of inner)))))
                  (same_step (TermEnd (site act)) (TermEnd (site (head rest))) (formed _ _ (inr (inr (inl refl)))) reached)),
            ),
          ),
        )
    reach acts low (Both act rest) numbered is_last ends_are formed reached =
        let both = join_step (TermEnd (site act)) (End (site act)) (TermEnd (site (head rest))) (formed _ _ (inr (inr (inl refl)))) reached in (
          (λ is. absurd cc),
          (
            (λ is. absurd cc),
            (
              (λ is. reached),
              every_append IsFound (act_forms act) (forms rest)
                  (act_reach acts low act numbered.0 is_last.0 ends_are.2 (λ point form_of inner. formed point form_of (inr (inr (inr (in_left (act_forms act) (forms rest) point form_of inner))))) both.0)
                  (reach (act ∷ acts) (low + act_size act) rest numbered.1 is_last.1 ends_are.3 (λ point form_of inner. formed point form_of (inr (inr (inr (in_right (act_forms act) (forms rest) point form_of inner))))) both.1),
            ),
          ),
        )

    act_reach : (acts : List Act) (low : ℕ) (act : Act) → NumberedAct acts low act → IsTailAct act → AreTailEndsIn tail act → FormsOf (act_forms act) → Reached (node_of (End (site act))) → Every IsFound (act_forms act)
    act_reach acts low (Cycle p count) numbered is_last ends_are formed reached = ((λ is. reached), tt)
    act_reach acts low (Set p register value) numbered is_last ends_are formed reached = ((λ is. reached), tt)
    act_reach acts low (If p condition first second valued) numbered is_last ends_are formed reached =
        let both = merge_step (End p) (TermEnd (site (head first))) (TermEnd (site (head second))) (formed _ _ (inr (inr (inl refl)))) reached in (
          (λ is. absurd cc),
          (
            (λ is. absurd cc),
            (
              (λ is. reached),
              every_append IsFound (forms first) (forms second)
                  (reach acts (low + 1) first numbered.1 is_last.0 ends_are.0 (λ point form_of inner. formed point form_of (inr (inr (inr (in_left (forms first) (forms second) point form_of inner))))) both.0)
                  (reach acts (low + (1 + size first)) second numbered.2 is_last.1 ends_are.1 (λ point form_of inner. formed point form_of (inr (inr (inr (in_right (forms first) (forms second) point form_of inner))))) both.1),
            ),
          ),
        )
    act_reach acts low (Block p inner) numbered is_last ends_are formed reached = (
      (λ is. absurd cc),
      (
        (λ is. reached),
        reach acts (low + 1) inner numbered.1 is_last ends_are (λ point form_of deeper. formed point form_of (inr (inr deeper))) (same_step (End p) (TermEnd (site (head inner))) (formed _ _ (inr (inl refl))) reached),
      ),
    )
    act_reach acts low (Send p port value) numbered is_last ends_are formed reached = elim is_last [ ]
    act_reach acts low (Recv p port) numbered is_last ends_are formed reached = elim is_last [ ]
    act_reach acts low (When p condition first) numbered is_last ends_are formed reached = elim is_last [ ]
    act_reach acts low (Wait p variable) numbered is_last ends_are formed reached = elim is_last [ ]
    act_reach acts low (Pure p value) numbered is_last ends_are formed reached = elim is_last [ ]
    act_reach acts low (Nothing p) numbered is_last ends_are formed reached = elim is_last [ ]

  found : (point : Spot) (form_of : Form Spot) → IsFormed (forms body) point form_of → IsFound point
  found point form_of formed =
      every_is IsFound (forms body) point form_of formed (reach [] 0 body body_is.numbered body_is.tail (tail_ends_are body body_is.numbered) (λ point form_of formed. formed) at_last)

  pub tail_reached : (node : ℕ) → graph.live node ≡ true → graph.tail node ≡ true → Reached node
  tail_reached node live of_tail = subst Reached by.at (by_point by.formed of_tail)
    where
      by : DrawnBy form node_of (turn_points body) node (point_of body form node_of node)
      by = drawing body body_is form apart node_of once node live

      by_point : IsFormed (turn_points body) (point_of body form node_of node) by.form_of → is_tail tail (point_of body form node_of node) ≡ true → Reached (node_of (point_of body form node_of node))
      by_point (inl same) of_tail =
          absurd (let first : is_tail tail (TermBegin (site (head body))) ≡ is_tail tail (point_of body form node_of node) = ap (λ formed. is_tail tail formed.spot) same in let impossible : false ≡ true = first ∙ of_tail in cc)
      by_point (inr formed) of_tail = found (point_of body form node_of node) by.form_of formed of_tail

  graph_is : IsTurnGraph graph
  graph_is = is_turn_graph body body_is form apart node_of once (last_is_point body)

  pub reached_tail : (node : ℕ) → Reached node → (graph.live node ≡ true) × (graph.tail node ≡ true)
  reached_tail node at_last = (graph_is.last_live, graph_is.last_tail)
  reached_tail from (by_same {node = node} is reached) =
      let before = reached_tail node reached in
      let node_is : IsNode graph node (Same from) = rw is at (graph_is.nodes node before.0) in
      let tail_is : IsTailNode graph node (Same from) = rw is at (graph_is.tails node before.0 before.1) in
      (node_is.1, tail_is)
  reached_tail first (by_join {node = node} {second = second} is reached) =
      let before = reached_tail node reached in
      let node_is : IsNode graph node (Join first second) = rw is at (graph_is.nodes node before.0) in
      let tail_is : IsTailNode graph node (Join first second) = rw is at (graph_is.tails node before.0 before.1) in
      ((node_is.0).1, tail_is.0)
  reached_tail second (by_other_join {node = node} {first = first} is reached) =
      let before = reached_tail node reached in
      let node_is : IsNode graph node (Join first second) = rw is at (graph_is.nodes node before.0) in
      let tail_is : IsTailNode graph node (Join first second) = rw is at (graph_is.tails node before.0 before.1) in
      ((node_is.1).1, tail_is.1)
  reached_tail first (by_merge {node = node} {second = second} is reached) =
      let before = reached_tail node reached in
      let node_is : IsNode graph node (Merge first second) = rw is at (graph_is.nodes node before.0) in
      let tail_is : IsTailNode graph node (Merge first second) = rw is at (graph_is.tails node before.0 before.1) in
      ((node_is.0).1, tail_is.0)
  reached_tail second (by_other_merge {node = node} {first = first} is reached) =
      let before = reached_tail node reached in
      let node_is : IsNode graph node (Merge first second) = rw is at (graph_is.nodes node before.0) in
      let tail_is : IsTailNode graph node (Merge first second) = rw is at (graph_is.tails node before.0 before.1) in
      ((node_is.1).1, tail_is.1)
