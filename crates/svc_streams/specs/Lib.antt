pub mod Buffers
pub mod Verdicts
pub mod StreamPolls
pub mod Events
pub mod HandshakeData
pub mod Handshakes
pub mod HandshakeCauses
