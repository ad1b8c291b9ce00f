-- Each front that is walked begins a file: some tokens finish what is begun.
pub mod Ends
pub mod ThreadEnds
pub mod Fronts
