-- What each token does in an expression, and how the types of the crate are seen.
pub mod Read
pub mod Seen
