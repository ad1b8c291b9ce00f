-- The lemmas of this crate: equal bits, and one less in the arithmetic of a width.
pub mod SameBits
pub mod Counting
