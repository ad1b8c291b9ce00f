-- The grammar of a source file, in reading order: what single tokens say, which lists of tokens are a file, what is
-- counted and how much of it there may be, and when a list of tokens is refused; then the laws that hold of them.
pub mod Words
pub mod Grammar
pub mod Begun
pub mod Limits
pub mod Refusal
pub mod Laws
-- The same by reading token by token: where a reading stands, what each token comes to there, and the reading within
-- the limits.
pub mod State
pub mod Step
pub mod Limited
