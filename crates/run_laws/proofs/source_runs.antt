-- What a source run is made of: turns over rows, exchanges, offers, registers, sides and what a log shows.
pub mod Causal
pub mod SameRuns
pub mod Exists
pub mod SameWires
pub mod Shown
pub mod Offers
pub mod Exchanges
pub mod Chosen
pub mod Written
