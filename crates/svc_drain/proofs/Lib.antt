pub mod Records
pub mod Signalled
pub mod GoingOn
pub mod Foreign
pub mod Passing
pub mod Cuts
pub mod Broadcasts
pub mod Terminating
