pub mod Channel
pub mod Pair
pub mod GivingUp
pub mod Handover
pub mod Operator
pub mod Law
pub mod Runs
