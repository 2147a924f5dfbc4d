-- The block accessed directly before
pub mod Lasts
