-- The ends of the lives of a process on the graph of two turns of a thread, and the graph as the rules ask for it.
--
-- A life that lasts until another message has an end at the end of each act on that message's port, in either turn.
use Rattle.std.specs.Prelude.{ℕ, ◌==◌, if◌then◌else◌, true, false, List, [], ◌∷◌, ◌++◌}
use Rattle.order_rules.specs.Last.{Ending, Within, At}
use Rattle.core_term.specs.Term.{Term, One, Then, Both, Act, Cycle, Set, Send, Recv, If, When, Block, Wait, Pure, Nothing}
use Rattle.core_term.specs.Numbering.{Numbered}
use Rattle.core_term.specs.Points.{End}
use Rattle.core_term.specs.Order.{Point, point}
use Rattle.core_term.specs.Process.{LifeEnd, Cycles, Until, Process, life_of}
use Rattle.core_term.specs.Graph.{Graph, IsGraphOf}
use Rattle.event_graph.specs.Forms.{form_at, apart_at}
use Rattle.event_points.specs.Nodes.{twice, node_of}

-- the sites of the acts on a port, in text order
abbrev mutual
  pub sites_on : ℕ → Term → List ℕ
  sites_on n (One a) = act_sites_on n a
  sites_on n (Then a t) = act_sites_on n a ++ sites_on n t
  sites_on n (Both a t) = act_sites_on n a ++ sites_on n t

  pub act_sites_on : ℕ → Act → List ℕ
  act_sites_on n (Send p m e) = if m == n then p ∷ [] else []
  act_sites_on n (Recv p m) = if m == n then p ∷ [] else []
  act_sites_on n (If p e t u w) = sites_on n t ++ sites_on n u
  act_sites_on n (When p e t) = sites_on n t
  act_sites_on n (Block p t) = sites_on n t
  act_sites_on n (Cycle p k) = []
  act_sites_on n (Set p r e) = []
  act_sites_on n (Wait p y) = []
  act_sites_on n (Pure p e) = []
  act_sites_on n (Nothing p) = []

-- the ends at the acts of these sites, in both turns
abbrev pub ends_at : (Point → ℕ) → List ℕ → List (Ending ℕ)
ends_at node [] = []
ends_at node (w ∷ rest) = At (node (point false (End w))) ∷ At (node (point true (End w))) ∷ ends_at node rest

-- the ends of a life
abbrev pub endings : Term → (Point → ℕ) → List LifeEnd → List (Ending ℕ)
endings body node [] = []
endings body node (Cycles k ∷ rest) = Within k ∷ endings body node rest
endings body node (Until n ∷ rest) = ends_at node (sites_on n body) ++ endings body node rest

-- the graph of two turns
abbrev pub graph_of : Process → Term → Graph
graph_of p body =
    record {
      form = form_at (twice body);
      apart = apart_at (twice body);
      ends = λ m. endings body (node_of body) (life_of p m);
      node = node_of body;
    }

-- The graph of two turns of a numbered body is a graph of the body, as the rules ask for it.
abbrev pub GraphsAreOfBodies : Type 0
GraphsAreOfBodies = (p : Process) (body : Term) → Numbered [] 0 body → IsGraphOf p body (graph_of p body)
