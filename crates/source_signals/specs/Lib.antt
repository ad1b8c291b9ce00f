-- The signals that threads read.
pub mod Sources
