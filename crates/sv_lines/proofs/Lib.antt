-- What follows from the definitions, a folder for each part of the argument.
pub mod read
pub mod back
pub mod kept
pub mod begun
pub mod answer
mod Examples
