-- Listings worked by hand
pub mod WorkedListings
-- How large an expansion is
pub mod Sizes
-- The edge rules of document 01
pub mod Edges
-- What paths access
pub mod Reached
-- Runs and paths give the same access sequences
pub mod SameSequences
-- What is read at a place
pub mod Inside
-- What a sequence writes, and that there is room
pub mod Rooms
-- The second pass
pub mod Writes
-- What is written is the expansion
pub mod Shows
-- The call
pub mod Calls
-- How large the numbers of a graph are
pub mod Blocks
-- The promises
pub mod Promises
