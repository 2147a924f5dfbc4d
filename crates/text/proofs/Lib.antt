-- The lines of a table
pub mod Lines
-- What is printed for what the graph call answers
pub mod Printed
