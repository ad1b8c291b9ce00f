pub mod Walk
pub mod Turns
pub mod Seen
