-- The side of an `if` comes with the `if` where it is chosen, and is lost where it is not.
use Rattle.std.proofs.Common.{◌≡◌, ℕ, inl, inr, refl, sym, ◌∙◌, ap, [], Bool, true, false, not, if◌then◌else◌}
use Rattle.order_rules.specs.Form.{Side}
use Rattle.core_term.specs.Inputs.{Inputs}
use Rattle.core_term.specs.Term.{Expr, Term, Act, Cycle, Set, Send, Recv, If, When, Block, Wait, Pure, Nothing, site, head}
use Rattle.core_term.specs.Points.{Spot, TermBegin, TermEnd, Begin, End, NoSide, forms}
use Rattle.core_term.specs.Occurs.{Occurrence, Gone, At}
use Rattle.core_term.specs.Numbering.{Numbered}
use Rattle.core_term.specs.Order.{IsFormed}
use Rattle.core_term.specs.Ends.{Sees}
use Rattle.core_term.specs.Tail.{IsTail}
use Rattle.core_term.specs.Acts.{Asks}
use Rattle.core_term.specs.Reread.{deciding}
use Rattle.run_laws.specs.TurnLaws.{Takes}
use Rattle.run_laws.proofs.turn_points.Idle.{idle_not, gone as idle_gone}
use Rattle.run_laws.proofs.turn_points.TurnRules.{obeys_rules}
use Rattle.turn_machine.specs.Draws.{IsSideOf, OfAct}
use Rattle.turn_machine.proofs.Turns.{at, RunsAt, runs_at, begin_is, rule}

-- only an `if` has sides
asks : (decision : ℕ → ℕ → Bool) (act : Act) (point : Spot) (chosen : ℕ → Bool) → IsSideOf decision act point chosen → (condition : Expr) × Asks act condition
asks decision (If p condition first second valued) point chosen side = (condition, refl)
asks decision (When p condition first) point chosen side = (condition, refl)
asks decision (Cycle p count) point chosen side = elim side [ ]
asks decision (Set p register value) point chosen side = elim side [ ]
asks decision (Send p port value) point chosen side = elim side [ ]
asks decision (Recv p port) point chosen side = elim side [ ]
asks decision (Block p inner) point chosen side = elim side [ ]
asks decision (Wait p variable) point chosen side = elim side [ ]
asks decision (Pure p value) point chosen side = elim side [ ]
asks decision (Nothing p) point chosen side = elim side [ ]

module _ (occurs : Spot → Occurrence) (decision : ℕ → ℕ → Bool) where
  -- the side that is taken, from that of the act
  side_comes : (start place : ℕ) (act : Act) (point : Spot) (chosen : ℕ → Bool) → IsSideOf decision act point chosen → site act ≡ place → Takes occurs start (decision place start) act
      → occurs point ≡ (if chosen start then At start else Gone)
  side_comes start place (If p condition first second valued) (TermBegin q) chosen (inl side) at_place takes =
      let decides : chosen start ≡ decision place start = side.1 start ∙ ap (λ n. decision n start) at_place in
      rw (side.0, decides) (by_decision (decision place start) takes)
    where
      by_decision : (decided : Bool) → Takes occurs start decided (If p condition first second valued) → occurs (TermBegin (site (head first))) ≡ (if decided then At start else Gone)
      by_decision true takes = takes.0
      by_decision false takes = takes.0
  side_comes start place (If p condition first second valued) (TermBegin q) chosen (inr side) at_place takes =
      let decides : chosen start ≡ not (decision place start) = side.1 start ∙ ap (λ n. not (decision n start)) at_place in
      rw (side.0, decides) (by_decision (decision place start) takes)
    where
      by_decision : (decided : Bool) → Takes occurs start decided (If p condition first second valued) → occurs (TermBegin (site (head second))) ≡ (if not decided then At start else Gone)
      by_decision true takes = takes.1
      by_decision false takes = takes.1
  side_comes start place (When p condition first) (TermBegin q) chosen side at_place takes =
      let decides : chosen start ≡ decision place start = side.1 start ∙ ap (λ n. decision n start) at_place in
      rw (side.0, decides) (by_decision (decision place start) takes)
    where
      by_decision : (decided : Bool) → Takes occurs start decided (When p condition first) → occurs (TermBegin (site (head first))) ≡ (if decided then At start else Gone)
      by_decision true takes = takes.0
      by_decision false takes = takes.0
  side_comes start place (When p condition first) (NoSide q) chosen side at_place takes =
      let decides : chosen start ≡ not (decision place start) = side.1 start ∙ ap (λ n. not (decision n start)) at_place in
      rw (side.0, decides) (by_decision (decision place start) takes)
    where
      by_decision : (decided : Bool) → Takes occurs start decided (When p condition first) → occurs (NoSide p) ≡ (if not decided then At start else Gone)
      by_decision true takes = takes.1
      by_decision false takes = takes.1
  side_comes start place (If p condition first second valued) (TermEnd q) chosen side at_place takes = elim side [ ]
  side_comes start place (If p condition first second valued) (Begin q) chosen side at_place takes = elim side [ ]
  side_comes start place (If p condition first second valued) (End q) chosen side at_place takes = elim side [ ]
  side_comes start place (If p condition first second valued) (NoSide q) chosen side at_place takes = elim side [ ]
  side_comes start place (When p condition first) (TermEnd q) chosen side at_place takes = elim side [ ]
  side_comes start place (When p condition first) (Begin q) chosen side at_place takes = elim side [ ]
  side_comes start place (When p condition first) (End q) chosen side at_place takes = elim side [ ]
  side_comes start place (Cycle p count) point chosen side at_place takes = elim side [ ]
  side_comes start place (Set p register value) point chosen side at_place takes = elim side [ ]
  side_comes start place (Send p port value) point chosen side at_place takes = elim side [ ]
  side_comes start place (Recv p port) point chosen side at_place takes = elim side [ ]
  side_comes start place (Block p inner) point chosen side at_place takes = elim side [ ]
  side_comes start place (Wait p variable) point chosen side at_place takes = elim side [ ]
  side_comes start place (Pure p value) point chosen side at_place takes = elim side [ ]
  side_comes start place (Nothing p) point chosen side at_place takes = elim side [ ]

was_chosen : (chosen : Bool) (start cycle : ℕ) (occurs : Occurrence) → occurs ≡ (if chosen then At start else Gone) → occurs ≡ At cycle → (chosen ≡ true) × (start ≡ cycle)
was_chosen true start cycle occurs is comes = (refl, let same : At start ≡ At cycle = sym is ∙ comes in cc)
was_chosen false start cycle occurs is comes = absurd (idle_not idle_gone (sym is ∙ comes))

module _ (inputs : Inputs) (registers : ℕ → ℕ → ℕ) (decision : ℕ → ℕ → Bool) (body : Term) (numbered : Numbered [] 0 body) (tails : IsTail body) where
  abbrev view : Sees
  view = deciding registers decision

  abbrev comes_at : (turn : ℕ) → Spot → Occurrence
  comes_at turn = at inputs registers decision body numbered tails turn

  side_is : (turn place : ℕ) (act : RunsAt inputs registers decision body numbered tails turn place) (point : Spot) (chosen : ℕ → Bool) → OfAct body place (λ act. IsSideOf decision act point chosen)
      → comes_at turn point ≡ (if chosen act.begin then At act.begin else Gone)
  side_is turn place act point chosen of_act =
      let rules = obeys_rules inputs view body numbered turn in
      let stands = rules.stands place act.scope act.begin act.term act.runs in
      let side = of_act stands.0 act.term stands.1 stands.2 in
      let asked = asks decision (head act.term) point chosen side in
      side_comes (comes_at turn) decision act.begin place (head act.term) point chosen side stands.2 (rules.side place act.scope act.begin act.term asked.0 act.runs asked.1)

  pub side_came : (turn cycle place : ℕ) (point : Spot) (chosen : ℕ → Bool) → OfAct body place (λ act. IsSideOf decision act point chosen) → IsFormed (forms body) point (Side (Begin place)) → comes_at turn point ≡ At cycle
      → (comes_at turn (Begin place) ≡ At cycle) × (chosen cycle ≡ true)
  side_came turn cycle place point chosen of_act formed comes =
      let begun = (rule inputs registers decision body numbered tails turn point (Side (Begin place)) formed).up cycle comes in
      let act = runs_at inputs registers decision body numbered tails turn cycle (Begin place) begun in
      let choice = was_chosen (chosen act.begin) act.begin cycle (comes_at turn point) (side_is turn place act point chosen of_act) comes in
      (begun, rw (choice.1) at (choice.0))

  pub side_will_come : (turn cycle place : ℕ) (point : Spot) (chosen : ℕ → Bool) → OfAct body place (λ act. IsSideOf decision act point chosen) → comes_at turn (Begin place) ≡ At cycle → chosen cycle ≡ true → comes_at turn point ≡ At cycle
  side_will_come turn cycle place point chosen of_act begun choice =
      let act = runs_at inputs registers decision body numbered tails turn cycle (Begin place) begun in
      let same : act.begin ≡ cycle = begin_is inputs registers decision body numbered tails turn place cycle act begun in
      let is : comes_at turn point ≡ (if chosen cycle then At cycle else Gone) = rw same at (side_is turn place act point chosen of_act) in
      rw choice at is
