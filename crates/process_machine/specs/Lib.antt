pub mod ActTests
pub mod ThreadMachine
pub mod ProcessMachine
pub mod Rereads
pub mod TurnMachine
pub mod StateBits
