pub mod OfferData
pub mod OfferState
pub mod OfferEffects
pub mod OfferFacts
pub mod OfferDues
