-- The rows of a pairing
pub mod Rows
