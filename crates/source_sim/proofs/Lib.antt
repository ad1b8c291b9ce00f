-- Loops over acts, what the walk needs, loops over threads and ports, and a new simulation.
pub mod Loops
pub mod Walks
pub mod Fills
pub mod Starts
