-- What the grammar calls a file is walked to its end: expressions, acts and terms, the other parts, files. So a file has one tree.
pub mod TakenFirst
pub mod Levels
pub mod ExprNodes
pub mod OperandFirst
pub mod Reading
pub mod Expr
pub mod ActEnds
pub mod Term
pub mod Class
pub mod Process
pub mod File
pub mod OneTree
