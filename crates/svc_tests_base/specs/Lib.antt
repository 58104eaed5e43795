pub mod Polling
pub mod Waits
