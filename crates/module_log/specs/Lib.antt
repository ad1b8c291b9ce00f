-- Modules that have the ports of a process, and what is seen of them.
pub mod SamePorts
pub mod Log
pub mod Agree
-- For the code's own functions: the lists compared, and where a machine stands.
pub mod Compared
pub mod Stands
pub mod Runs
