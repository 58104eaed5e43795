pub mod PlaceLemmas
pub mod PlainLemmas
pub mod SpellingLemmas
