-- Which bytes spell a file, why they spell none, when the file is accepted, and the process of a name in it: read in
-- this order.
pub mod FileText
pub mod Refused
pub mod Check
pub mod Ruled
pub mod Named
