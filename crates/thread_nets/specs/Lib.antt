-- Which bodies can be drawn, and what the walk over a body needs and gives.
pub mod Fits
pub mod Body
pub mod Walk
