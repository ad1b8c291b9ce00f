pub mod Truth
pub mod Demanded
pub mod Clashing
pub mod FoundTo
