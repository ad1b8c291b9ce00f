-- What is written for a file, the log of a run, what `run` and `runsv` write, the stages of each command, and the laws:
-- read in this order.
pub mod Output
pub mod Logs
pub mod Run
pub mod RunModule
pub mod Stages
pub mod Laws
pub mod SameLog
