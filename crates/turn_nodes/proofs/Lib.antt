-- Why the laws hold: the nodes but the first are those of the points that have nodes of their own.
pub mod Drawn
pub mod Sided
pub mod PortEnds
pub mod Reached
pub mod Sides
