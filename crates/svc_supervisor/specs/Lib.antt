pub mod Marks
pub mod ChainData
pub mod Chains
pub mod Carries
pub mod Kept
pub mod Refusals
pub mod Generations
