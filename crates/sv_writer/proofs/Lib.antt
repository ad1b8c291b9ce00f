-- Lines that are put one after another.
pub mod Lines
pub mod Parts
