-- What is said of the acts of a thread as its nets are drawn, site by site.
pub mod Newest
pub mod Acts
pub mod Kept
pub mod Outs
