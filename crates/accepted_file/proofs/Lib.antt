pub mod CountingAccepted
