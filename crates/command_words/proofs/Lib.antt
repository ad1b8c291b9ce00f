-- How clap walks over words, what it reads of the operands of a command, and that it is their form.
pub mod Walks
pub mod Operands
pub mod Forms
-- The number that a word is.
pub mod Numbers
-- Examples.
pub mod Examples
