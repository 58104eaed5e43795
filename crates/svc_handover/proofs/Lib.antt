pub mod ChannelLemmas
pub mod MessageLemmas
pub mod TriesLemmas
pub mod TurnLemmas
pub mod OvertakenLemmas
pub mod BindsLemmas
pub mod GivingUpLemmas
mod GivenUp
pub mod OfferedLemmas
pub mod CoveredLemmas
pub mod ReceivedLemmas
pub mod PairLemmas
pub mod SideLemmas
pub mod TextLemmas
pub mod AddressLemmas
pub mod SentLemmas
pub mod LawLemmas
pub mod OperatorLemmas
pub mod ReachLemmas
pub mod OperatorLaw
pub mod RunLemmas
mod LackingPremises
