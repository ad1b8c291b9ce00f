-- What is seen of the source run of a process on rows, and where its simulation stands.
pub mod Log
pub mod Stands
