-- That a process which keeps its demands runs safely.
pub mod NoViolations
pub mod Premises
pub mod UseLaw
pub mod ThreadActs
pub mod ThreadUses
pub mod ThreadEnds
pub mod SafeRun
pub mod AllSafe
