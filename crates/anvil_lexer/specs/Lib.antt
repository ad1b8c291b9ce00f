-- What the contracts of this crate rest on, in reading order: names.
pub mod Name
pub mod GoodName
-- Token texts.
pub mod Characters
pub mod Spelling
pub mod Lexeme
pub mod Gap
pub mod TokenText
-- What the functions promise each other.
pub mod Scan
