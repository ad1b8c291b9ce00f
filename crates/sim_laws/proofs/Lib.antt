-- The lemmas of this crate; the README has their reading order.
pub mod Leaf
pub mod Touched
pub mod Steps
pub mod Turn
pub mod Sites
pub mod Others
pub mod Offered
pub mod Writes
pub mod Cycle
pub mod RowsTaken
pub mod Wide
pub mod Bridge
pub mod Sized
pub mod Counts
pub mod Walked
pub mod Started
pub mod StepMade
