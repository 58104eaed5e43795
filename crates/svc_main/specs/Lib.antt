pub mod TextLines
pub mod Planned
pub mod Status
pub mod CommandWords
pub mod Generator
pub mod Counts
pub mod RecordingHostData
pub mod Program
