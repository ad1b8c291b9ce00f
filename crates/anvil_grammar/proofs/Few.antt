-- The limits on what begins in the text, told from the tree: the counting, acts and their nodes, and the file.
pub mod Numbers
pub mod Acts
pub mod OfTree
