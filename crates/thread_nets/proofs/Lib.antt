-- The lemmas of this crate, in reading order: lists that continue others, what stays as it is told, and what an act has of its own.
pub mod Lists
pub mod Later
pub mod Acts
pub mod Own
pub mod Scopes
pub mod Parts
pub mod Leaves
pub mod Coded
pub mod Weight
pub mod Whole
pub mod Sized
