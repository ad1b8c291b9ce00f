-- The ports of the processes of the generated file.
pub mod Ports
