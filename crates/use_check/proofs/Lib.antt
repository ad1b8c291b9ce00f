pub mod Ends
pub mod MadeDemands
pub mod WireDemands
pub mod BothRules
