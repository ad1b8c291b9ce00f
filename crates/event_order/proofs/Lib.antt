pub mod Places
pub mod Small
pub mod Pairs
pub mod Filled
pub mod Next
