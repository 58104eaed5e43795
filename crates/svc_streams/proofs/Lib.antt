pub mod EventLemmas
pub mod CauseLemmas
