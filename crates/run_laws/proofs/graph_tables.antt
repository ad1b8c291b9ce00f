-- What tables of a graph tell of demands.
pub mod Told
pub mod OfText
