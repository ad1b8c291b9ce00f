-- What the summary of the generated file counts, and its line; for an inner function, what it needs of each process.
pub mod Totals
pub mod Summary
pub mod Ready
