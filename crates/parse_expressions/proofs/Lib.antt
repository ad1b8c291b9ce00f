-- Stacks of frames, operands and their frames, how groups begin, and the reading of an expression inside a thread.
pub mod Stacks
pub mod Settling
pub mod Groups
