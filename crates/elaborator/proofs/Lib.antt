pub mod Seen
pub mod Weight
pub mod Plans
pub mod SidePlans
pub mod Coded
pub mod CodedSides
pub mod Elaborates
