pub mod ServerLemmas
pub mod AcceptedLemmas
