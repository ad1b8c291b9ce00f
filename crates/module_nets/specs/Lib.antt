-- What contracts say of a module as it grows: what stands in it, what its signals show, and which signals are named.
pub mod Shifts
pub mod Netlist
pub mod Shown
pub mod Bits
pub mod Signals
