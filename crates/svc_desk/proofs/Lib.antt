pub mod DeedLemmas
pub mod TurnLemmas
pub mod ServingLemmas
