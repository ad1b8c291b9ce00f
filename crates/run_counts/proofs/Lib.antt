-- How many ports there are at most.
pub mod Few
-- The cells and registers of a cycle, against what is seen of the run.
pub mod Seen
pub mod CycleSeen
-- The counts of one cycle more.
pub mod More
-- The law of both counts.
pub mod Same
-- The counts of a tiny run.
pub mod Example
