-- What a listing is, and its tokens
pub mod Listing
-- A listing read from tokens
pub mod Reading
-- How many nodes, accesses and edges it adds
pub mod Counting
