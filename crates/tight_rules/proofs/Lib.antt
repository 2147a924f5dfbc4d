-- Dead blocks, contents that lose places, and states that move to weaker ones
pub mod Dead
pub mod Parts
pub mod Moves
-- Runs, from their first access to their last, joins, and graphs along a path
pub mod Runs
pub mod Joins
pub mod Graphs
pub mod Live
-- The limits
pub mod Few
pub mod Limits
-- The curve, and the promises
pub mod Curves
pub mod Promises
-- The numbers worked by hand
pub mod WorkedNumbers
