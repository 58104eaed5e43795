pub mod Services
pub mod Handed
pub mod HelloPlan
