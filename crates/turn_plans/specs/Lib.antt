-- What the code of a plan reads off a graph and a text.
pub mod Read
pub mod Wires
