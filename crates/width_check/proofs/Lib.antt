-- Threads one after the other, which ask only what is taken; registers and endpoints one after the other; a process from its parts; and the
-- items of a file one after the other.
pub mod Alike
pub mod ThreadSteps
pub mod RegisterSteps
pub mod EndpointSteps
pub mod ProcessSteps
pub mod FileSteps
