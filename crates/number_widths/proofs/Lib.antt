pub mod Operated
pub mod Again
pub mod Runs
