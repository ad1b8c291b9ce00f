-- How expressions that are acts, acts and terms are read from their parts. What threads take.
pub mod ReadPure
pub mod ReadActs
pub mod ReadTerms
pub mod TakenMore
