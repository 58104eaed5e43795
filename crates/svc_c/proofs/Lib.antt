pub mod AsBox
mod RoomLemmas
mod MakingLemmas
