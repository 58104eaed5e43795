pub mod ProcessData
pub mod Signals
pub mod Notifying
pub mod Daemons
