-- What the nets of a machine of pulses stand for.
pub mod Pulses
pub mod NextStates
pub mod Writes
