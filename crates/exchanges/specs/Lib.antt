-- What is kept of the exchanges of a port, and what it tells.
pub mod Lives
pub mod Next
pub mod Promise
pub mod Broken
pub mod Watch
