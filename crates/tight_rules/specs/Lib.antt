-- What comes in
pub mod Asked
-- The table, and one access of a run
pub mod Rows
pub mod Reduction
pub mod Ends
pub mod Run
-- Graphs
pub mod Join
pub mod Live
pub mod Graph
-- How much room it takes, and when the work says no
pub mod Rooms
pub mod Refusals
