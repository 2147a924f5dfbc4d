-- States put where they belong
pub mod Placing
-- The working room: a slot for each node, and the scratch behind them
pub mod Rooms
-- The states that follow
pub mod Following
-- The states that follow as streams, and streams merged
pub mod Merging
-- What becomes of runs that evict
pub mod Sharing
-- What is still to come of runs
pub mod ToCome
-- Runs split, and what is left over of them
pub mod Splitting
-- A run in one stream
pub mod Going
-- What replaces two states in a fold
pub mod Partners
-- Joining two tables
pub mod Pairing
-- Working a table, a node, a graph
pub mod Working
-- What a call leaves
pub mod Call
