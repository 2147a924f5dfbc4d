-- The graphs of a list
pub mod Graphs
-- when the build is refused
pub mod Reasons
-- a row
pub mod Rows
-- the report
pub mod Report
