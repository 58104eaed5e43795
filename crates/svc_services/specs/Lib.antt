pub mod BlockedLists
pub mod Filtered
pub mod Services
