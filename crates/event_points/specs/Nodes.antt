-- The nodes of the graph of a body, for one turn and for two, and the node and the arms of each point.
--
-- The nodes of one turn are the first nodes of two.
use Rattle.std.specs.Prelude.{ℕ, ◌+◌, Bool, true, false, List, [], ◌∷◌, ◌++◌}
use Rattle.core_term.specs.Term.{Term}
use Rattle.core_term.specs.Order.{Point}
use Rattle.event_graph.specs.declared.node.Arm.{Arm}
use Rattle.event_graph.specs.declared.node.Kind.TheVariants as kind
use Rattle.event_graph.specs.Event.{Event}
use Rattle.event_points.specs.Owned.{owned, count, drawn_all}
use Rattle.event_points.specs.Table.{Entry, entries, end_node, node_in, arms_in}

-- the first turn begins at the node 0, the second at the node of the end of the first
abbrev pub first_table : Term → List Entry
first_table body = entries 1 1 0 [] body

abbrev pub second_table : Term → List Entry
second_table body = entries 2 (1 + count body) (end_node 1 0 body) [] body

abbrev pub start : Event
start = record { kind = kind.Start; preds = []; arms = [] }

-- what each turn adds
abbrev pub first_events : Term → List Event
first_events body = drawn_all (node_in (first_table body)) (arms_in 1 (first_table body)) (owned body)

abbrev pub second_events : Term → List Event
second_events body = drawn_all (node_in (second_table body)) (arms_in 2 (second_table body)) (owned body)

-- the nodes of one turn, and of two
abbrev pub once : Term → List Event
once body = start ∷ first_events body

abbrev pub twice : Term → List Event
twice body = once body ++ second_events body

-- of the points of both turns
abbrev pub table_of : Term → Bool → List Entry
table_of body false = first_table body
table_of body true = second_table body

abbrev pub node_of : Term → Point → ℕ
node_of body b = node_in (table_of body b.late) b.spot

abbrev pub turn_number : Bool → ℕ
turn_number false = 1
turn_number true = 2

abbrev pub arms_of : Term → Point → List Arm
arms_of body b = arms_in (turn_number b.late) (table_of body b.late) b.spot
