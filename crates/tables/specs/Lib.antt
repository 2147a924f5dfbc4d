-- What an access is after, from any arguments
pub mod Aim
-- The edges of a flat list
pub mod Edges
-- States put where they belong
pub mod Placing
-- The working room: a slot for each node, and the scratch behind them
pub mod Rooms
-- Joining two tables
pub mod Fronts
-- The states that follow
pub mod Following
