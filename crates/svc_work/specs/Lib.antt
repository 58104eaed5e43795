pub mod Conveying
pub mod Parts
pub mod Works
