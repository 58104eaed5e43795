pub mod StepLemmas
pub mod CauseLemmas
pub mod CutLemmas
pub mod GroupLemmas
pub mod ManyLemmas
pub mod HexLemmas
pub mod PeerBack
