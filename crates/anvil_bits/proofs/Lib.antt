pub mod Word
pub mod Shifts
pub mod Examples
