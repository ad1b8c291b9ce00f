-- How the types of this crate are seen.
pub mod Runs
pub mod Seen
