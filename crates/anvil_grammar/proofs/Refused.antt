-- The refusals of tokens, and which comes first; what the reading within the limits answers.
pub mod Cuts
pub mod Later
pub mod First
pub mod Refusals
pub mod Verdicts
pub mod Parsed
