-- Examples computed or worked, and what they stand on.
pub mod ExampleProcesses
mod ExamplesRuns
mod ExamplesLives
mod ExamplesPoints
mod ExampleTimes
mod ExamplesRules
mod ExamplesTurns
mod AcceptedEcho
mod GraphOfCycle
mod RereadCounter
