pub mod Drawn
pub mod Early
pub mod Preds
pub mod Times
