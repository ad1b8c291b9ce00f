-- In reading order. The places of a tree, and those at which things begin.
pub mod Places
-- Reading lists of tokens, one after the other.
pub mod Walk
-- What the grammar calls a file is walked to its end.
pub mod Walked
-- What is walked to its end is a file.
pub mod Kept
-- Each front that is walked begins a file.
pub mod Viable
-- The reading within the limits, in terms of the one without.
pub mod Limited
-- The limits, told from the tree.
pub mod Few
-- The refusals of tokens, and which comes first; what the reading within the limits answers.
pub mod Refused
-- Examples.
pub mod Examples
pub mod VerdictExamples
