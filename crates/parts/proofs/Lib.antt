-- What the graph call and the longest path answer
pub mod Calls
-- The best case of a list of numbers
pub mod Best
