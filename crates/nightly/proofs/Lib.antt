-- A graph's row
pub mod OneRow
-- the report
pub mod Reporting
-- the pass over the graphs
pub mod Working
-- what the call leaves
pub mod Calls
-- What it promises
pub mod Promises
