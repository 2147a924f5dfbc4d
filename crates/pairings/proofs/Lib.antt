-- Joins, counted
pub mod Joins
-- Rows, one after the other
pub mod Rows
