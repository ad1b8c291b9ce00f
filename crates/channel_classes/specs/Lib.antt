-- The classes of a file, and the checks of them.
pub mod Classes
pub mod ClassChecks
