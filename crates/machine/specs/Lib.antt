pub mod Cache
pub mod Draws
