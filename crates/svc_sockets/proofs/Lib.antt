pub mod EchoLemmas
pub mod NumberLemmas
pub mod TellLemmas
mod PendingLemmas
