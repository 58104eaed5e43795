pub mod BootstrapData
pub mod Lending
