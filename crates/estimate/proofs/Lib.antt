-- Which of two states stands after the other
pub mod Deciding
-- States added in any order
pub mod Adding
-- The states that follow as streams, their order, and runs of them merged into a table
pub mod StreamOrder
pub mod Streams
pub mod StreamParts
pub mod Runs
-- What comes of a run in one stream
pub mod Sharing
-- What is still to come of runs
pub mod StillToCome
pub mod RunHeads
pub mod Mixing
pub mod Gathering
pub mod RunListing
pub mod HeadByHead
-- What becomes of a run that evicts, put to a table
pub mod Laying
-- What is left over of them
pub mod LeftOver
-- The states that follow
pub mod Following
-- States moved within a table
pub mod Moving
-- Folding
pub mod Folding
-- Joining by what is handed in
pub mod HandedIn
-- Tables in their places, and their ends
pub mod Sealing
pub mod Settling
-- Graphs
pub mod Graphs
-- The block accessed directly before
pub mod Lasts
-- What a call leaves
pub mod Handing
pub mod Calls
-- and that it can be asked
pub mod Finished
