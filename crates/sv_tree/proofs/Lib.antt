pub mod WellFormedPoints
mod Parts
mod Sample
mod Ports
mod IllFormed
pub mod NumbersFit
