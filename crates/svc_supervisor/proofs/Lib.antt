pub mod GenerationLemmas
pub mod QuietLemmas
pub mod PairSteps
pub mod CarryLemmas
pub mod LinkedLemmas
pub mod PlaceLemmas
pub mod ClosingLemmas
pub mod ChainLemmas
