-- The generated file of a number, and the rows that its processes are run on.
pub mod Generated
pub mod Rows
