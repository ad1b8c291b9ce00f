-- The lemmas of this crate, in reading order: what a net shows, what stands when a net is added, finished modules, bits, and
-- expressions.
pub mod Settled
pub mod Growing
pub mod Outcomes
pub mod Finished
pub mod BitsTold
pub mod Expressions
