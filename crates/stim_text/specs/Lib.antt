-- The definitions that the calls of this crate cite, and below them what its functions promise one another.
pub mod Lines
pub mod Cut
pub mod Answers
pub mod Answered
pub mod Refused
pub mod OneStimulus
pub mod Seen
pub mod Watching
pub mod Pieces
pub mod Fields
pub mod LogLine
pub mod Passing
pub mod Inside
