pub mod Earlier
pub mod OfThread
pub mod OfFile
pub mod Refusal
