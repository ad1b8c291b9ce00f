-- What is seen of the source run on rows.
pub mod OnRows
