-- The lemmas of this crate: digits.
pub mod DigitCounts
pub mod Growing
pub mod StatesOfThread
pub mod GrowingThreads
pub mod FrameNames
pub mod SlotsFit
pub mod SlotBits
pub mod Assembled
pub mod DeedBits
pub mod PlanBits
