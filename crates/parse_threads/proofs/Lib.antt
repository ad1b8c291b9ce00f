-- Acts and their bound variables, how acts begin, names and marks that are wanted, and expressions inside threads.
pub mod Joining
pub mod Openings
pub mod Wanted
pub mod Within
pub mod Values
