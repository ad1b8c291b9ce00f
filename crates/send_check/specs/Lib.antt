pub mod Clashes
pub mod Settled
