pub mod HostLemmas
pub mod EntryLemmas
