pub mod OtherSets
pub mod ChoiceDemands
pub mod RegisterDemands
pub mod BothRules
