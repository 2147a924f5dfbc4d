-- The least units
pub mod Least
-- The two states of a fold
pub mod Searches
