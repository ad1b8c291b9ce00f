-- Ports and registers compared, rows of the process, and what a machine shows of its module.
pub mod Compared
pub mod ModuleRows
pub mod ModuleShows
pub mod OnRows
-- The law of both logs.
pub mod LogsAgree
