-- A lent row, by value
pub mod Copies
