pub mod Endings
pub mod EchoPlans
pub mod Reports
pub mod Runs
pub mod Words
