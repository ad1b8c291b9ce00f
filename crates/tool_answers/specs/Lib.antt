-- The answers of a call, the lines that stand beside them, what the stages of a command say, what each answer tells,
-- and all that a call promises: read in this order.
pub mod Status
pub mod Lines
pub mod Stages
pub mod Answer
pub mod Answered
pub mod OneAnswer
