-- What the traits promise, and what the two impls over memory keep and answer.
pub mod Causes
pub mod Memory
pub mod Entries
pub mod System
pub mod Lines
