-- The lemmas of this crate: loops that read a graph, and the joining of what they read.
pub mod Pushed
pub mod NodesRead
pub mod NoWidths
pub mod Wired
pub mod Marked
pub mod PortDeeds
pub mod Planned
pub mod Joined
