pub mod Asking
pub mod Signals
