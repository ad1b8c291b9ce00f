-- A graph that draws the points of one turn of a body.
--
-- Each live node is the node of one point of the text and has the form of that point. What its form names need not be
-- the very points of the text: it is enough that they come in the same cycles of every turn. So a point of the form
-- Same may share the node of its predecessor.
use Rattle.std.specs.Prelude.{ℕ, ◌≡◌, ◌<◌, ◌⊎◌, ◌↔◌, not, Bool, true, false, List, []}
use Rattle.order_rules.specs.Form.{Form, Start, Same, After, Sync, Join, Side, Merge}
use Rattle.core_term.specs.Inputs.{Inputs}
use Rattle.core_term.specs.Term.{Term, Act, If, When, site, head}
use Rattle.core_term.specs.Ends.{Sees}
use Rattle.core_term.specs.Stands.{Stands}
use Rattle.core_term.specs.Acts.{OnPort}
use Rattle.core_term.specs.Points.{Spot, TermBegin, TermEnd, Begin, End, NoSide, forms}
use Rattle.core_term.specs.Order.{IsFormed}
use Rattle.core_term.specs.Occurs.{At}
use Rattle.run_laws.specs.TurnLaws.{times, answer}
use Rattle.turn_pulses.specs.TurnGraph.{TurnGraph}
use Rattle.turn_pulses.specs.PulseMachine.{Seen}
use Rattle.turn_machine.specs.TailEnds.{tail_ends, is_tail}

-- two points come in the same cycles of every turn, whatever the walk
abbrev pub ComeTogether : Inputs → Sees → Term → (one other : Spot) → Type 0
ComeTogether inputs view body one other = (turn cycle : ℕ) → cycle < inputs.count
    → (times inputs view body turn one ≡ At cycle) ↔ (times inputs view body turn other ≡ At cycle)

-- the act is on a port, and the wire is the one that ends it
abbrev pub IsEndedBy : Inputs → Act → (wire : ℕ → Bool) → Type 0
IsEndedBy inputs act wire = (port : ℕ) × OnPort act port × ((cycle : ℕ) → wire cycle ≡ answer inputs act cycle)

-- the point begins a side of the act, and `chosen` says when that side is taken
abbrev pub IsSideOf : (decision : ℕ → ℕ → Bool) → Act → Spot → (chosen : ℕ → Bool) → Type 0
IsSideOf decision (If p condition first second valued) (TermBegin q) chosen =
    ((q ≡ site (head first)) × ((start : ℕ) → chosen start ≡ decision p start))
    ⊎ ((q ≡ site (head second)) × ((start : ℕ) → chosen start ≡ not (decision p start)))
IsSideOf decision (When p condition first) (TermBegin q) chosen =
    (q ≡ site (head first)) × ((start : ℕ) → chosen start ≡ decision p start)
IsSideOf decision (When p condition first) (NoSide q) chosen =
    (q ≡ p) × ((start : ℕ) → chosen start ≡ not (decision p start))
IsSideOf decision act point chosen = ⊥

-- this holds of the act at a site, wherever it stands
abbrev pub OfAct : Term → (place : ℕ) → (Holds : Act → Type 0) → Type 0
OfAct body place Holds =
    (scope : List Act) (term : Term) → Stands [] body scope term → site (head term) ≡ place → Holds (head term)

-- the join of a chain whose parts begin together: it has both its ends in each turn that ends
abbrev pub IsChainJoin : Term → (end first rest : Spot) → Type 0
IsChainJoin body end first rest =
    (p q : ℕ) × (end ≡ TermEnd p) × (first ≡ End p) × (rest ≡ TermEnd q)
    × IsFormed (forms body) (TermBegin q) (Same (TermBegin p))

-- how a node of this form is drawn
abbrev pub IsDrawn : Inputs → Sees → (decision : ℕ → ℕ → Bool) → Term → TurnGraph → Seen → (point : ℕ → Spot)
    → (node : ℕ) → Form ℕ → Type 0
IsDrawn inputs view decision body graph seen point node Start = point node ≡ TermBegin (site (head body))
IsDrawn inputs view decision body graph seen point node (Same from) =
    (before : Spot) × ComeTogether inputs view body (point from) before
    × IsFormed (forms body) (point node) (Same before)
IsDrawn inputs view decision body graph seen point node (After delay from) =
    (before : Spot) × ComeTogether inputs view body (point from) before
    × IsFormed (forms body) (point node) (After delay before)
IsDrawn inputs view decision body graph seen point node (Sync from) =
    (place : ℕ) × ComeTogether inputs view body (point from) (Begin place)
    × (point node ≡ End place) × OfAct body place (λ act. IsEndedBy inputs act (seen.wire node))
IsDrawn inputs view decision body graph seen point node (Side from) =
    (place : ℕ) × ComeTogether inputs view body (point from) (Begin place)
    × IsFormed (forms body) (point node) (Side (Begin place))
    × OfAct body place (λ act. IsSideOf decision act (point node) (seen.chosen node))
IsDrawn inputs view decision body graph seen point node (Join first second) =
    (one other : Spot) × ComeTogether inputs view body (point first) one
    × ComeTogether inputs view body (point second) other
    × IsFormed (forms body) (point node) (Join one other)
    × (graph.forgets node ≡ false → IsChainJoin body (point node) one other)
IsDrawn inputs view decision body graph seen point node (Merge first second) =
    (one other : Spot) × ComeTogether inputs view body (point first) one
    × ComeTogether inputs view body (point second) other
    × IsFormed (forms body) (point node) (Merge one other)

-- a graph, what its machine sees, and the point of each node, over a walk that decides so
pub record Draws (inputs : Inputs) (view : Sees) (decision : ℕ → ℕ → Bool) (body : Term)
    (graph : TurnGraph) (seen : Seen) (point : ℕ → Spot) : Type 0 where
  pub nodes : (node : ℕ) → graph.live node ≡ true
      → IsDrawn inputs view decision body graph seen point node (graph.form node)
  pub last : ComeTogether inputs view body (point graph.last) (TermEnd (site (head body)))
  pub tail : (node : ℕ) → graph.tail node ≡ is_tail (tail_ends body) (point node)
