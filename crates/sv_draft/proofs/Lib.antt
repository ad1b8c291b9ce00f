pub mod NamedPlaces
pub mod ItemLines
