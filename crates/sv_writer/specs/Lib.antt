-- What this crate's functions promise one another; the text of a module is a definition of `sv_tree`.
pub mod Pieces
pub mod Block
pub mod Header
