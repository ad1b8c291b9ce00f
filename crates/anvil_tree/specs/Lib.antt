-- The tree as plain data, in reading order; then how the types of the crate are seen as it, and what other crates say of a tree: the
-- order of its places, and that it is within the limits.
pub mod Tree
pub mod Places
pub mod View
pub mod Order
pub mod Few
