-- What the types of the code keep: ports, sizes, tables of atoms, rows.
pub mod Ports
pub mod FirstSites
pub mod Fits
pub mod Counted
pub mod AtomOrder
pub mod Settled
pub mod TableRows
pub mod AtomsFilled
pub mod AtomsKept
pub mod Acting
pub mod FittingRows
