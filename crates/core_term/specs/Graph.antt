-- Graphs of a body, tables of the order, and what the tables say of a claim.
--
-- The nodes stand for the points of the text, of one turn or of two that follow each other, and a point of the form
-- Same may share the node of its predecessor. Tables tell the order of the nodes of two turns, so each claim over
-- points of the text holds exactly where they show it.
use Rattle.std.specs.Prelude.{ℕ, ◌≡◌, ◌⊎◌, ℤ, Bool, List}
use Rattle.order_rules.specs.Form.{Form, Start, Same, After, Sync, Join, Side, Merge}
use Rattle.order_rules.specs.Before.{Before}
use Rattle.order_rules.specs.Last.{Ending}
use Rattle.order_rules.specs.Last as last
use Rattle.order_rules.specs.Lag.{Lag, Admits, IsOrderTable, IsLastTable}
use Rattle.order_rules.specs.Entry.{IsEarlier}
use Rattle.order_rules.specs.LastEntry.{IsListed}
use Rattle.order_rules.specs.Laws as nodes
use Rattle.order_rules.specs.Standing.{IsPoint, Stands, EndsStand}
use Rattle.core_term.specs.Term.{Term, site, head}
use Rattle.core_term.specs.Process.{Process, life_of}
use Rattle.core_term.specs.Points.{Spot, TermBegin, forms}
use Rattle.core_term.specs.Order.{Point, IsFormed, HasForm, Apart, Exclusive}
use Rattle.core_term.specs.Lives.{HasEnding}
use Rattle.core_term.specs.Rules.{Claim, Order, Last, Either, Both, end_of}

-- The points of one turn: its begin comes first, and each other point has the form that the text gives it.
abbrev pub HasFormOnce : Term → Spot → Form Spot → Type 0
HasFormOnce body b Start = b ≡ TermBegin (site (head body))
HasFormOnce body b (Same c) = IsFormed (forms body) b (Same c)
HasFormOnce body b (After n c) = IsFormed (forms body) b (After n c)
HasFormOnce body b (Sync c) = IsFormed (forms body) b (Sync c)
HasFormOnce body b (Join c e) = IsFormed (forms body) b (Join c e)
HasFormOnce body b (Side c) = IsFormed (forms body) b (Side c)
HasFormOnce body b (Merge c e) = IsFormed (forms body) b (Merge c e)

-- nodes with their forms and exclusions are a graph of one turn of a body: each comes from earlier ones, and they stand
-- for the points of the turn
pub record StandsOnce (body : Term) (form : ℕ → Form ℕ) (apart : ℕ → ℕ → Bool) (node : Spot → ℕ) : Type 0 where
  pub earlier : (b : ℕ) → IsEarlier b (form b)
  pub stands : Stands Spot ℕ (HasFormOnce body) (nodes.HasForm form) (Apart body) (nodes.Apart apart) node

-- A graph of two turns: the nodes 0, 1, 2 and so on with their forms and exclusions, the ends of the life of each port,
-- and the node of each point
pub record Graph : Type 0 where
  pub form : ℕ → Form ℕ
  pub apart : ℕ → ℕ → Bool
  pub ends : ℕ → List (Ending ℕ)
  pub node : Point → ℕ

pub record IsGraphOf (p : Process) (body : Term) (g : Graph) : Type 0 where
  pub earlier : (b : ℕ) → IsEarlier b (g.form b)
  pub stands : Stands Point ℕ (HasForm body) (nodes.HasForm g.form) (Exclusive body) (nodes.Apart g.apart) g.node
  pub ends_stand : (m : ℕ)
      → EndsStand Point ℕ (HasForm body) g.node (HasEnding body (life_of p m)) (IsListed (g.ends m))

-- judgements over its nodes: u + d <= v, and the last cycle of the life of what a send of the port m sends, + d, is no
-- later than v
abbrev pub NodesOrder : Graph → (u v : ℕ) → ℤ → Type 0
NodesOrder g u v d = Before ℕ (nodes.HasForm g.form) (nodes.Apart g.apart) u d v

abbrev pub NodesLast : Graph → (send m v : ℕ) → ℤ → Type 0
NodesLast g send m v d =
    last.Last ℕ (nodes.HasForm g.form) (nodes.Apart g.apart) (IsListed (g.ends m)) (g.node (end_of send)) d v

-- tables of the order of its nodes, and of the last cycle of the life of what each send of a port sends. A table that
-- is closed under the rules is such a one
pub record Tables (g : Graph) : Type 0 where
  pub lag : ℕ → ℕ → Lag
  pub lag_is : IsOrderTable ℕ (nodes.HasForm g.form) (nodes.Apart g.apart) lag
  pub end_lag : (send port : ℕ) → ℕ → Lag
  pub end_lag_is : (send port : ℕ)
      → IsLastTable ℕ (nodes.HasForm g.form) (nodes.Apart g.apart) (IsListed (g.ends port)) (g.node (end_of send))
      (end_lag send port)

-- what the tables say of a claim
abbrev pub Shows : (g : Graph) → Tables g → Claim → Type 0
Shows g t (Order a d b) = Admits (t.lag (g.node a) (g.node b)) d
Shows g t (Last s m d b) = Admits (t.end_lag s m (g.node b)) d
Shows g t (Either a b) = Shows g t a ⊎ Shows g t b
Shows g t (Both a b) = Shows g t a × Shows g t b

-- the points of a claim are points of the text
abbrev pub IsOfText : Term → Claim → Type 0
IsOfText body (Order a d b) = IsPoint Point (HasForm body) a × IsPoint Point (HasForm body) b
IsOfText body (Last s m d b) = IsPoint Point (HasForm body) (end_of s) × IsPoint Point (HasForm body) b
IsOfText body (Either a b) = IsOfText body a × IsOfText body b
IsOfText body (Both a b) = IsOfText body a × IsOfText body b
