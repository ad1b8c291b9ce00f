-- The counting of a reading within the limits, what it does with one token, and with a list of them.
pub mod Counts
pub mod Taken
pub mod Walked
