mod ExamplePrograms
mod ExamplesChecks
mod ExamplesOrder
mod ExamplesCore
pub mod Apart
pub mod ClassFits
pub mod ProcessHeld
pub mod PortsFit
pub mod Owned
pub mod ProcessFits
pub mod Files
pub mod NamesStand
pub mod CoreTerms
pub mod CoreFiles
pub mod Sizes
pub mod Held
pub mod NumberedBodies
pub mod TailBodies
pub mod FitsTerm
pub mod AnyWidths
pub mod ThreadBody
