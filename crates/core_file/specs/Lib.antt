-- The core file of a tree: scopes, terms and processes once names stand for numbers.
pub mod Scope
pub mod CoreTerm
pub mod CoreProcess
pub mod CoreFile
-- The checks of the processes, in the order of the text.
pub mod Refused
pub mod ExprChecks
pub mod TermChecks
pub mod TailChecks
pub mod ThreadChecks
pub mod ProcessChecks
-- What is proved.
pub mod Passes
pub mod Laws
pub mod IsCoreFile
pub mod CoreFileLaws
