-- One process more, and how long files are.
pub mod Lines
pub mod Lengths
-- Rows that fit the ports.
pub mod RowsFit
-- Examples.
pub mod Examples
