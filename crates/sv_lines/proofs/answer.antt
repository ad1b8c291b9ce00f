pub mod Fronts
pub mod Stops
pub mod NotEmitted
pub mod Along
pub mod LineCut
pub mod ReadLines
