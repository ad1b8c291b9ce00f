-- What each act of a body does, by its site.
pub mod Deeds
