pub mod Rows
pub mod State
pub mod Stands
pub mod Shown
pub mod Cycle
pub mod Inside
