pub mod Sites
pub mod Ends
pub mod Lives
