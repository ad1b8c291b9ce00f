pub mod ModuleRun
pub mod Meaning
