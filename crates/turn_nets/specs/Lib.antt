-- What the pulse of one node of a turn tells, by its plan.
pub mod Planned
