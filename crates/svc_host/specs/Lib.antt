pub mod Answers
pub mod GatedFilters
pub mod RecordedHostData
pub mod ToldAccountData
