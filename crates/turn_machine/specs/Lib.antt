pub mod TailEnds
pub mod Draws
pub mod Follows
pub mod OneTurn
pub mod SideArms
pub mod Reached
