-- What the types of the code keep.
pub mod code_tables
