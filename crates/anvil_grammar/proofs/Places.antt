-- The places of a tree from left to right, and those of its acts; then the places at which things begin.
pub mod InOrder
pub mod ActsInOrder
pub mod Begun
pub mod Walked
