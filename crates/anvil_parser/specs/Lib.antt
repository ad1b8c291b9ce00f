-- How the types of the crate are seen as the states of a reading.
pub mod SeenFile
