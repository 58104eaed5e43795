pub mod EchoPlanLemmas
pub mod EndingLemmas
pub mod RunLemmas
