-- The reading of a text, as definitions: from the pieces of a line up to a whole text.
pub mod Pieces
pub mod Lines
pub mod Operands
pub mod State
pub mod Step
pub mod Good
pub mod Refused
pub mod Laws
