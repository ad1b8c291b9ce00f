-- Which refusal bytes have, and that they have one at most.
pub mod Checks
pub mod Refusals
pub mod OneRefusal
-- Files that break a timing rule.
pub mod Ruled
-- The process of a name.
pub mod Processes
-- Examples.
pub mod Examples
