-- That the tables of a graph of a body tell what the rules demand of it.
use Rattle.std.specs.Prelude.{ℕ, ◌⊎◌, []}
use Rattle.order_rules.specs.Lag.{Lag, Tells}
use Rattle.order_rules.specs.Standing.{IsPoint}
use Rattle.core_term.specs.declared.rules.Rule.{Rule}
use Rattle.core_term.specs.Term.{Term}
use Rattle.core_term.specs.Numbering.{Numbered}
use Rattle.core_term.specs.Process.{Process, life_of}
use Rattle.core_term.specs.Order.{Point, HasForm, Precedes}
use Rattle.core_term.specs.Lives.{LastPrecedes}
use Rattle.core_term.specs.Rules.{Claim, Holds, Demands, end_of}
use Rattle.core_term.specs.Graph.{Graph, IsGraphOf, NodesOrder, NodesLast, Tables, Shows, IsOfText}

-- One entry tells one judgement: what tells the order of the nodes of two points tells the order of the points.
abbrev pub EntriesTellOrder : Type 0
EntriesTellOrder =
    (p : Process) (body : Term) (g : Graph) → IsGraphOf p body g
    → (a b : Point) → IsPoint Point (HasForm body) a → IsPoint Point (HasForm body) b
    → (entry : Lag) → Tells entry (NodesOrder g (g.node a) (g.node b)) → Tells entry (λ d. Precedes body a d b)

-- The same for the last cycle of the life of what a send of the port m sends: no other port is spoken of.
abbrev pub EntriesTellLast : Type 0
EntriesTellLast =
    (p : Process) (body : Term) (g : Graph) → IsGraphOf p body g
    → (send m : ℕ) (b : Point) → IsPoint Point (HasForm body) (end_of send) → IsPoint Point (HasForm body) b
    → (entry : Lag) → Tells entry (NodesLast g send m (g.node b))
    → Tells entry (λ d. LastPrecedes body (life_of p m) send d b)

-- A claim over points of the text holds exactly where the tables of a graph of the body show it.
abbrev pub TablesTellClaims : Type 0
TablesTellClaims =
    (p : Process) (body : Term) (g : Graph) → IsGraphOf p body g
    → (t : Tables g) (c : Claim) → IsOfText body c → (Holds p body c → Shows g t c) × (Shows g t c → Holds p body c)

-- The demands of a numbered body speak of points of its text.
abbrev pub DemandsAreOfText : Type 0
DemandsAreOfText =
    (p : Process) (j : ℕ) (body : Term) → Numbered [] 0 body
    → (rule : Rule) (first second : ℕ) (claim : Claim) → Demands p j body rule first second claim → IsOfText body claim

-- Each graph of a body has its tables.
abbrev pub GraphsHaveTables : Type 0
GraphsHaveTables = (p : Process) (body : Term) (g : Graph) → IsGraphOf p body g → Tables g

-- So where a body has a graph, each of its demands holds or does not, as the tables show it.
abbrev pub DemandsAreDecided : Type 0
DemandsAreDecided =
    (p : Process) (j : ℕ) (body : Term) → Numbered [] 0 body
    → (g : Graph) → IsGraphOf p body g → (t : Tables g)
    → (rule : Rule) (first second : ℕ) (claim : Claim) → Demands p j body rule first second claim
    → (Holds p body claim × Shows g t claim) ⊎ ((Holds p body claim → ⊥) × (Shows g t claim → ⊥))
