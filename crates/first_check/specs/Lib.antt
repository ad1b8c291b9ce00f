-- Checks in order and the first that fails; then what is proved of them.
pub mod Check
pub mod Laws
