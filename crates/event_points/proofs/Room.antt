-- How many nodes the graph of a body has: two fewer than three an act, in each turn.
use Rattle.std.proofs.Common.{◌+◌, ◌*◌, ◌≤◌, arith, length-append}
use Rattle.core_term.specs.Term.{Term, One, Then, Both, Act, Cycle, Set, Send, Recv, If, When, Block, Wait, Pure, Nothing}
use Rattle.core_term.specs.Numbering.{size, act_size}
use Rattle.event_points.specs.Owned.{owned, count, count_of}
use Rattle.event_points.specs.Table.{node_in, arms_in}
use Rattle.event_points.specs.Nodes.{once, first_table, second_table, second_events}
use Rattle.event_points.specs.Room.{GraphsAreSmall}
use Rattle.event_points.proofs.Steps.{length_owned}
use Rattle.event_points.proofs.Reading.{length_drawn}

mutual
  pub few_nodes : (t : Term) → count t + 2 ≤ 3 * size t
  few_nodes (One a) = few_nodes_of a
  few_nodes (Then a t) = let act = few_nodes_of a in let rest = few_nodes t in omega arith
  few_nodes (Both a t) = let act = few_nodes_of a in let rest = few_nodes t in omega arith

  few_nodes_of : (a : Act) → count_of a + 2 ≤ 3 * act_size a
  few_nodes_of (Cycle p n) = omega arith
  few_nodes_of (Set p r e) = omega arith
  few_nodes_of (Send p m e) = omega arith
  few_nodes_of (Recv p m) = omega arith
  few_nodes_of (If p e t u w) = let first = few_nodes t in let second = few_nodes u in omega arith
  few_nodes_of (When p e t) = let side = few_nodes t in omega arith
  few_nodes_of (Block p t) = let part = few_nodes t in omega arith
  few_nodes_of (Wait p y) = omega arith
  few_nodes_of (Pure p e) = omega arith
  few_nodes_of (Nothing p) = omega arith

pub small : GraphsAreSmall
small body =
    let few = few_nodes body in
    let owns = length_owned body in
    let first = length_drawn (node_in (first_table body)) (arms_in 1 (first_table body)) (owned body) in
    let second = length_drawn (node_in (second_table body)) (arms_in 2 (second_table body)) (owned body) in
    let both = length-append (once body) (second_events body) in
    (omega arith, omega arith)
