-- What is seen of a run, its log, and what a call that puts it leaves.
pub mod Shown
pub mod Log
pub mod OnRows
pub mod Ports
pub mod Places
pub mod Running
