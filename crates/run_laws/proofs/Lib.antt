-- What follows from the definitions, a folder for each part of the argument.
pub mod examples
pub mod turn_points
pub mod source_runs
pub mod safe_runs
pub mod rereading
pub mod graph_tables
