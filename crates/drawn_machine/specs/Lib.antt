-- That a module is drawn for a process, and what it then means.
pub mod Drawn
