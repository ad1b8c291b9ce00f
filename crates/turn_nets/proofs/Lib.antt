-- The lemmas of this crate, in reading order: bits by their numbers, the pulse of one node, those of the tail, and those of the
-- first nodes.
pub mod BitLists
pub mod OneNode
pub mod TailNodes
pub mod FirstNodes
