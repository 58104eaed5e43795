pub mod ListLemmas
pub mod BindLemmas
pub mod ReachLemmas
pub mod ListenLemmas
pub mod SetLemmas
pub mod AcceptLemmas
