-- The forms of the commands, the form of the command that the code reads, and for inner functions what clap matches.
pub mod Form
pub mod Seen
pub mod Matched
