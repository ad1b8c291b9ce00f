-- The tables: what is found in them by names, and one entry more. The scope that is found in them.
pub mod Named
pub mod Places
