-- What it means that a part was read, or why it was not: the threads, the registers and the endpoints of a process, and a process.
pub mod ReadThreads
pub mod ReadRegisters
pub mod ReadEndpoints
pub mod ReadProcess
