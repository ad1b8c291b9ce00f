pub mod Lags
pub mod Stored
pub mod Order
