pub mod NumbersFit
