-- The lemmas of this crate.
pub mod Bits
pub mod Sends
pub mod Steps
pub mod NodeStates
pub mod Kept
pub mod Ports
pub mod Finished
pub mod Frames
