-- The parts of a state machine: plans of turns, frames of modules, and what the nets of a thread show.
pub mod Parts
pub mod Plans
pub mod Digits
pub mod Frames
pub mod Threads
pub mod Nodes
pub mod Drafts
pub mod Modules
