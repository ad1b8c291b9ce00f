-- The lemmas of this crate, those of the laws first.
pub mod GoesOn
pub mod Ends
pub mod LivesKept
pub mod Promises
pub mod FirstBroken
pub mod Watched
