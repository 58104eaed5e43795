pub mod ConnectionsData
pub mod ConnectionsState
pub mod ConnectionsEffects
pub mod ConnectionsFacts
