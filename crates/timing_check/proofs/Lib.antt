pub mod Keys
pub mod Firsts
pub mod Processes
pub mod Rejections
pub mod Heads
pub mod Places
