-- The modules of the processes of a file, and their text.
pub mod Described
pub mod Written
-- The rows of a stimulus, and that a run on them is one.
pub mod Stimuli
pub mod Runs
-- That the stages of each command are exact, and that at most one answer has its cause.
pub mod SourceRuns
pub mod NamedModule
pub mod ModuleRuns
pub mod Exact
-- That a text that was compiled has the logs of its file.
pub mod SameLog
pub mod AsRun
-- That the line of a summary is what is written.
pub mod Summarised
