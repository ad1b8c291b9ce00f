-- What this crate's functions promise one another; what a simulation stands for is a definition of `sim_laws`.
pub mod NowSeen
pub mod Seen
