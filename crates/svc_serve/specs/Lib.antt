pub mod Ends
pub mod Files
pub mod Gates
pub mod Refusals
