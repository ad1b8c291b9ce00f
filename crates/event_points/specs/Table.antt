-- The nodes and arms of all points of a turn, as a table with an entry for each site.
--
-- The table is made term by term in tree order. That what is read off it is `Placed` and `Lies` is a lemma (`proofs/InTable`).
use Rattle.std.specs.Prelude.{ℕ, ◌+◌, true, false, List, [], ◌∷◌, ◌++◌, slice_get, Option, Some, None}
use Rattle.core_term.specs.Term.{Term, One, Then, Both, Act, If, When, Block, Pure, Nothing}
use Rattle.core_term.specs.Points.{Spot, TermBegin, TermEnd, Begin, End, NoSide}
use Rattle.event_graph.specs.declared.node.Arm.{Arm}
use Rattle.event_points.specs.Owned.{count, count_of}
use Rattle.event_points.specs.Placed.{arm}

-- the nodes of the points of one site, and the arms of the act there
pub record Entry : Type 0 where
  pub begin : ℕ
  pub end : ℕ
  pub term_end : ℕ
  pub no_side : ℕ
  pub arms : List Arm

-- the node of the end, of what begins at a node and has its own nodes from `from` on
abbrev mutual
  pub end_node : (from begin : ℕ) → Term → ℕ
  end_node from begin (One a) = act_end from begin a
  end_node from begin (Then a t) = end_node (from + count_of a) (act_end from begin a) t
  end_node from begin (Both a t) = from + count_of a + count t

  pub act_end : (from begin : ℕ) → Act → ℕ
  act_end from begin (If p e t u w) = from + 1 + count t + 1 + count u
  act_end from begin (When p e t) = from + 1 + count t + 1
  act_end from begin (Block p t) = end_node from begin t
  act_end from begin (Pure p e) = begin
  act_end from begin (Nothing p) = begin
  act_end from begin a = from

abbrev pub no_side : (from : ℕ) → Act → ℕ
no_side from (When p e t) = from + 1 + count t
no_side from a = 0

abbrev mutual
  pub entries : (turn from begin : ℕ) → List Arm → Term → List Entry
  entries turn from begin arms (One a) =
      record { begin = begin; end = act_end from begin a; term_end = act_end from begin a; no_side = no_side from a; arms = arms }
      ∷ inner turn from begin arms a
  entries turn from begin arms (Then a t) =
      record {
        begin = begin;
        end = act_end from begin a;
        term_end = end_node (from + count_of a) (act_end from begin a) t;
        no_side = no_side from a;
        arms = arms;
      }
      ∷ inner turn from begin arms a ++ entries turn (from + count_of a) (act_end from begin a) arms t
  entries turn from begin arms (Both a t) =
      record {
        begin = begin;
        end = act_end from begin a;
        term_end = from + count_of a + count t;
        no_side = no_side from a;
        arms = arms;
      }
      ∷ inner turn from begin arms a ++ entries turn (from + count_of a) begin arms t

  -- of the acts inside an act
  pub inner : (turn from begin : ℕ) → List Arm → Act → List Entry
  inner turn from begin arms (If p e t u w) =
      entries turn (from + 1) from (arms ++ arm turn p true ∷ []) t
      ++ entries turn (from + 1 + count t + 1) (from + 1 + count t) (arms ++ arm turn p false ∷ []) u
  inner turn from begin arms (When p e t) = entries turn (from + 1) from (arms ++ arm turn p true ∷ []) t
  inner turn from begin arms (Block p t) = entries turn from begin arms t
  inner turn from begin arms a = []

abbrev pub no_entry : Entry
no_entry = record { begin = 0; end = 0; term_end = 0; no_side = 0; arms = [] }

abbrev pub entry_or : Option Entry → Entry
entry_or None = no_entry
entry_or (Some e) = e

abbrev pub entry_at : List Entry → ℕ → Entry
entry_at table p = entry_or (slice_get table p)

-- the node and the arms of a point, read off the table
abbrev pub node_in : List Entry → Spot → ℕ
node_in table (TermBegin p) = (entry_at table p).begin
node_in table (Begin p) = (entry_at table p).begin
node_in table (End p) = (entry_at table p).end
node_in table (TermEnd p) = (entry_at table p).term_end
node_in table (NoSide p) = (entry_at table p).no_side

abbrev pub arms_in : (turn : ℕ) → List Entry → Spot → List Arm
arms_in turn table (TermBegin p) = (entry_at table p).arms
arms_in turn table (Begin p) = (entry_at table p).arms
arms_in turn table (End p) = (entry_at table p).arms
arms_in turn table (TermEnd p) = (entry_at table p).arms
arms_in turn table (NoSide p) = (entry_at table p).arms ++ arm turn p false ∷ []
