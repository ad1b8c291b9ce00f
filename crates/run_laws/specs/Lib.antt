pub mod OneRun
pub mod Shown
pub mod Accepted
pub mod TurnLaws
pub mod SafetyLaws
pub mod TableLaws
pub mod AgreementLaws
