mod TwoJobs
mod RangeLemmas
mod RunLemmas
mod TableLemmas
mod HeardLemmas
mod MakeLemmas
mod HostLemmas
mod RoomLemmas
mod ShutLemmas
pub mod OwedLemmas
pub mod EndLemmas
mod AfterLemmas
mod NextDueLemmas
mod TellLemmas
mod MomentLemmas
mod ServedLemmas
