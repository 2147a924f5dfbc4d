-- What the ways of a cache hold, as a contents mask
pub mod Seen
-- The worth of contents to the accesses ahead, and that it is above the machine, or equal to it
pub mod Value
pub mod Safe
pub mod Exact
-- One state weakened; what an access, a fold and a join do to the worth of a table
pub mod Weaker
pub mod Accesses
pub mod Folds
pub mod Joins
-- Runs, from their first access to their last, and graphs along a path
pub mod Runs
pub mod Paths
pub mod AnyPath
pub mod Graphs
-- The longest path
pub mod Longest
-- Straight runs, what is counted, cycles
pub mod Weights
pub mod Straight
pub mod Cycles
-- The best case: its value, its tables along a path, and the machine
pub mod BestValue
pub mod BestTables
pub mod BestMachine
-- Document 01's own pairings, handed in
pub mod Own
-- The promises
pub mod Promises
