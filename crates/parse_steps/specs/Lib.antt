-- How the types of the crate are seen as the steps, names, widths and tallies of a reading.
pub mod Seen
pub mod SeenWidth
pub mod SeenCounts
