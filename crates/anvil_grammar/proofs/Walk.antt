-- Reading one list of tokens after another, tokens that end with the one end mark, and the three facts on reading and grammar that the
-- refusals rest on.
pub mod Joined
pub mod Closed
pub mod Ends
pub mod Completed
