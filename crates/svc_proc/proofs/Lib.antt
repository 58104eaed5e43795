pub mod ProcessLemmas
pub mod NotifyLemmas
