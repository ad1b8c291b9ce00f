pub mod Exact
mod Cells
mod Nets
mod Places
mod Seen
mod Moves
