pub mod Sitting
pub mod DeedsRead
pub mod Deeds
