-- The nodes of one turn.
pub mod Laws
