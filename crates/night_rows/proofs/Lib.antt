-- The list cut into graphs
pub mod Cutting
-- the verdict on a list
pub mod Judged
-- a row in words
pub mod Rows
-- the report
pub mod Reporting
