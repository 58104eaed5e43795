pub mod MergedLemmas
pub mod SegmentLemmas
pub mod HalfLemmas
pub mod IpLemmas
pub mod SpanLemmas
pub mod ReadingLemmas
pub mod ServingLemmas
