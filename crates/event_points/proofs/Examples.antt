-- The nodes of two bodies, computed, against those that the table of forms gives by hand. Between them the bodies have every kind
-- of act.
use Rattle.std.proofs.Common.{◌≡◌, ℕ, refl, true, false, List, [], ◌∷◌}
use Rattle.core_term.specs.Term.{Term, Reg, One, Then, Both, Cycle, Set, Send, Recv, If, When, Block, Wait, Pure, Nothing}
use Rattle.core_term.specs.Points.{TermBegin, TermEnd, Begin, End, NoSide}
use Rattle.core_term.specs.Order.{point}
use Rattle.event_graph.specs.declared.node.Arm.{Arm}
use Rattle.event_graph.specs.declared.node.Kind.{Kind}
use Rattle.event_graph.specs.declared.node.Kind.TheVariants as kind
use Rattle.event_graph.specs.Event.{Event}
use Rattle.event_points.specs.Placed.{arm}
use Rattle.event_points.specs.Table.{node_in}
use Rattle.event_points.specs.Nodes.{once, twice, first_table, node_of}

abbrev node : Kind → List ℕ → List Arm → Event
node kind preds arms = record { kind = kind; preds = preds; arms = arms }

-- let x = recv a ; (x >> if *c { set d := *c } else { cycle 5 } >> *c)
abbrev waiting : Term
waiting = Both (Recv 0 0) (Then (Wait 1 0) (Then (If 2 (Reg 0) (One (Set 3 1 (Reg 0))) (One (Cycle 4 5)) false) (One (Pure 5 (Reg 0)))))

-- The `recv` and the rest begin with the body (0). The `recv` ends at a Sync (1), the wait at a Join of the begin and that (2).
-- The `if` begins there: a Side (3) with the `set` one cycle later (4), a Side (5) with the `cycle` (6), and a Merge of their
-- ends (7). The value takes no time. The body ends at a Join of the ends of the `recv` and of the rest (8).
waiting_nodes : once waiting
    ≡ node kind.Start [] []
    ∷ node kind.Sync (0 ∷ []) []
    ∷ node kind.Join (0 ∷ 1 ∷ []) []
    ∷ node kind.Side (2 ∷ []) (arm 1 2 true ∷ [])
    ∷ node (kind.After 1) (3 ∷ []) (arm 1 2 true ∷ [])
    ∷ node kind.Side (2 ∷ []) (arm 1 2 false ∷ [])
    ∷ node (kind.After 5) (5 ∷ []) (arm 1 2 false ∷ [])
    ∷ node kind.Merge (4 ∷ 6 ∷ []) []
    ∷ node kind.Join (1 ∷ 7 ∷ []) []
    ∷ []
waiting_nodes = refl

-- a wait begins where the chain around it stands, and not where the act that it waits for ends
waiting_begins : node_in (first_table waiting) (Begin 1) ≡ 0
waiting_begins = refl

waiting_value : node_in (first_table waiting) (End 5) ≡ 7
waiting_value = refl

waiting_ends : node_in (first_table waiting) (TermEnd 0) ≡ 8
waiting_ends = refl

-- { cycle 1 ; send a(*c) } >> if *c { () } >> cycle 2
abbrev blocks : Term
blocks = Then (Block 0 (Both (Cycle 1 1) (One (Send 2 0 (Reg 0))))) (Then (When 3 (Reg 0) (One (Nothing 4))) (One (Cycle 5 2)))

-- The second turn begins with the node of the end of the first (7), and its sides are of the turn 2.
blocks_nodes : twice blocks
    ≡ node kind.Start [] []
    ∷ node (kind.After 1) (0 ∷ []) []
    ∷ node kind.Sync (0 ∷ []) []
    ∷ node kind.Join (1 ∷ 2 ∷ []) []
    ∷ node kind.Side (3 ∷ []) (arm 1 3 true ∷ [])
    ∷ node kind.Side (3 ∷ []) (arm 1 3 false ∷ [])
    ∷ node kind.Merge (4 ∷ 5 ∷ []) []
    ∷ node (kind.After 2) (6 ∷ []) []
    ∷ node (kind.After 1) (7 ∷ []) []
    ∷ node kind.Sync (7 ∷ []) []
    ∷ node kind.Join (8 ∷ 9 ∷ []) []
    ∷ node kind.Side (10 ∷ []) (arm 2 3 true ∷ [])
    ∷ node kind.Side (10 ∷ []) (arm 2 3 false ∷ [])
    ∷ node kind.Merge (11 ∷ 12 ∷ []) []
    ∷ node (kind.After 2) (13 ∷ []) []
    ∷ []
blocks_nodes = refl

-- a block begins and ends with what is in it, and the missing side is a Side alone
blocks_end : node_in (first_table blocks) (End 0) ≡ 3
blocks_end = refl

blocks_missing : node_in (first_table blocks) (NoSide 3) ≡ 5
blocks_missing = refl

blocks_next : node_of blocks (point true (TermBegin 0)) ≡ node_of blocks (point false (TermEnd 0))
blocks_next = refl

blocks_last : node_of blocks (point true (TermEnd 0)) ≡ 14
blocks_last = refl
