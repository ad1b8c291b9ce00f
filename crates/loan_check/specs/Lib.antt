pub mod Choices
pub mod Elsewhere
pub mod Registers
