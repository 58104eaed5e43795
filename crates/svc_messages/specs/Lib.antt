pub mod FirstRefusals
pub mod ItemFaults
pub mod Messages
pub mod Pieces
pub mod Places
pub mod Refusals
pub mod Spelling
