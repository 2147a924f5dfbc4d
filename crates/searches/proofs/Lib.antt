-- The words of one state
pub mod Parts
-- What the tests of a search say
pub mod Tests
-- The least units
pub mod Lowest
-- How a search goes on
pub mod Seeking
-- What a search finds
pub mod Chosen
-- What is found is document 01's choice
pub mod Choosing
