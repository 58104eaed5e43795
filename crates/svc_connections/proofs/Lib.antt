pub mod LiveLemmas
pub mod Aside
pub mod Parts
pub mod Foreign
pub mod StageLemmas
pub mod Counts
pub mod Steps
pub mod Unheard
pub mod Arrivals
pub mod Rests
pub mod Ending
mod Came
