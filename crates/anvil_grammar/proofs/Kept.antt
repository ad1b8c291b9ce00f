-- What is walked to its end is a file: what the stack says of the tokens so far, and that each step keeps it.
pub mod Loosened
pub mod Waiting
pub mod Settling
pub mod Term
pub mod Expr
pub mod Thread
pub mod Parts
pub mod Class
pub mod Process
pub mod File
