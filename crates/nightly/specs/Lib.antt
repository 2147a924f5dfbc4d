-- A graph's row
pub mod Rows
-- what the call leaves
pub mod Call
