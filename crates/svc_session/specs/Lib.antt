pub mod SessionData
pub mod Sessions
