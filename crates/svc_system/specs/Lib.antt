pub mod Answering
pub mod Given
pub mod Letters
pub mod Lines
pub mod Offers
pub mod Orders
