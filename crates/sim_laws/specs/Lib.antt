-- The step of a simulation, what its state stands for, and the laws.
pub mod Advance
pub mod Passes
pub mod Remembers
pub mod Present
pub mod Stands
pub mod Fitting
pub mod SimLaws
pub mod Typed
pub mod SiteWidths
pub mod Kept
pub mod WidthsFound
