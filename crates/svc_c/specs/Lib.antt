pub mod Exports
pub mod Held
pub mod Making
pub mod Numbers
pub mod SessionData
pub mod Sessions
