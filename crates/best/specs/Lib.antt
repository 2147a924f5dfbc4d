-- The best case's tables
pub mod Tables
-- States put where they belong
pub mod Placing
-- The working room: a slot for each node, and the scratch behind them
pub mod Rooms
-- The states that follow
pub mod Following
-- The partner of a state
pub mod Choosing
-- Joining two tables
pub mod Pairing
-- Working a table, a node, a graph
pub mod Working
-- What a call leaves
pub mod Call
