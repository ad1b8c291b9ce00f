-- The kinds of tokens, read of characters.
pub mod Reading
-- The texts of numbers.
pub mod Numbers
-- The pieces of a line.
pub mod Pieces
-- The kinds of the file's tokens.
pub mod Lines
-- Its bytes are characters.
pub mod Ascii
-- Tokens of kinds, anywhere.
pub mod Placed
-- What the grammar reads of the kinds.
pub mod Walked
-- The law.
pub mod Ports
