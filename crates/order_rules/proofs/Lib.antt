pub mod Law
pub mod LastLaw
mod Examples
pub mod Exact
pub mod Table
pub mod LastExact
pub mod LastTable
pub mod Transfer
pub mod LastTransfer
