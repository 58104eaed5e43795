pub mod JobTexts
pub mod JobReadings
pub mod JobServices
pub mod JobEnds
pub mod JobPrograms
pub mod JobFiles
