-- Masks, and looking up a block
pub mod Masks
-- The next place whose block is held
pub mod Places
-- The edges into a node
pub mod Edges
-- States put where they belong
pub mod Insertion
-- Tables read from words
pub mod Reading
-- The scratch of the working room
pub mod Scratch
-- States moved within words
pub mod Moving
-- Nodes and their tables
pub mod Nodes
-- Joining two tables
pub mod Pairing
-- The states that follow
pub mod Following
-- Folding
pub mod Folding
-- Tables in their places
pub mod Settling
-- What comes in
pub mod Inputs
