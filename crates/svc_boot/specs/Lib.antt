pub mod BootData
pub mod ForkState
pub mod BootState
pub mod BootEffects
pub mod BootFacts
