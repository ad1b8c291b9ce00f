-- The lemmas of this crate: texts read, cut and put, and the watch.
pub mod Decided
pub mod PiecesRead
pub mod FieldsRead
pub mod LinesCut
pub mod StimulusRead
pub mod OneStimulus
pub mod RowsSeen
pub mod WatchSteps
pub mod LogLines
pub mod PutParts
pub mod Texts
pub mod Filling
pub mod PortsFit
