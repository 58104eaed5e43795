pub mod OptionsData
pub mod Steps
pub mod OptionLists
pub mod DialerData
pub mod Connects
pub mod VirtualSockets
pub mod Peers
pub mod ReadPeers
