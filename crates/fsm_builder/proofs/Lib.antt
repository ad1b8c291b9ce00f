pub mod Drafting
pub mod Built
