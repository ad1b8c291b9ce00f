pub mod TurnGraph
pub mod PulseMachine
pub mod Timeline
pub mod PulseLaws
pub mod Latest
pub mod LatestLaws
