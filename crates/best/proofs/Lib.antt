-- The laws of every kind of table, for the best case's
pub mod Laws
-- When two states stand in the same place
pub mod Insertion
-- The states that follow
pub mod Following
-- Folding
pub mod Folding
-- Tables in their places
pub mod Settling
-- Graphs
pub mod Graphs
-- Zeros behind a table
pub mod Sealing
-- What a call leaves
pub mod Handing
pub mod Calls
