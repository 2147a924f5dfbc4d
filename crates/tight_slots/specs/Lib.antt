-- Which slot holds the table of a node
pub mod Slots
