pub mod Ways
pub mod Statuses
pub mod Steps
pub mod OneAnswer
