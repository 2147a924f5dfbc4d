-- What a head says is what it was made of
pub mod Reading
-- Heads in order
pub mod Rows
