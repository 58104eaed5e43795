pub mod Desks
pub mod MemoryDesks
pub mod Deeds
pub mod Working
pub mod Serving
