-- How the reading of a text is seen.
pub mod SeenState
