-- How the types of the crate are seen as frames.
pub mod SeenFrames
