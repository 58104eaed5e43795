pub mod DrainData
pub mod DrainState
pub mod DrainEffects
pub mod DrainFacts
pub mod DrainDues
pub mod DrainPuts
