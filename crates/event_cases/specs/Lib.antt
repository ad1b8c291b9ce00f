-- That the graph of one turn tells the order of the points of the turn.
pub mod OneTurn
