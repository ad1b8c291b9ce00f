-- `Walks` is for crates above: how the checks of a whole follow from those of its parts.
pub mod Walks
pub mod Fails
