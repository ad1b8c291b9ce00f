-- The promises of the rows, and what the processes of the generated file have.
pub mod Kept
pub mod Ready
pub mod Counted
-- The ports of a module that was built.
pub mod BuiltPorts
-- The sums over one process more.
pub mod More
-- What is known of the file of a number.
pub mod Summed
