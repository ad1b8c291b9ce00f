-- What earlier threads have taken, as the definitions see it; the width of the value of an `if`; and what it means that
-- a term or an act was read, or why it was not.
pub mod Taken
pub mod Words
pub mod Read
