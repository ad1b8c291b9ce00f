-- How the types of this crate are seen: keys of registers, a module that is being read, and what a line comes to; and
-- an operand of a width.
pub mod Keys
pub mod SeenDraft
pub mod OfWidth
pub mod Reached
