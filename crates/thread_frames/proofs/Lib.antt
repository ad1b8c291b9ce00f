-- Stacks of frames.
pub mod Stacks
