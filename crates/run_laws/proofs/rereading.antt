-- That a re-reading run agrees with the source while promises are kept.
pub mod FreshAtoms
pub mod Fresh
pub mod Decide
pub mod Agree
pub mod SameTurns
pub mod Agreeing
pub mod Agreed
pub mod Breaks
pub mod SameLogs
