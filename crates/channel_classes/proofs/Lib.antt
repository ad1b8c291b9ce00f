-- What a search among names tells; the messages of a class one after the other; the entries of a table as classes; and the items of a
-- file one after the other.
pub mod Found
pub mod Messages
pub mod Table
pub mod Standing
