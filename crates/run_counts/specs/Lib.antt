-- What is counted of a run of a process, and that the module of a process counts what its source run does.
pub mod Counts
pub mod CountLaws
-- For the code's own functions: the exchanges of one cycle, by its cells.
pub mod Cells
