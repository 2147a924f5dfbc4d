-- A lent row, by value
pub mod Rows
