-- The graph call and the longest path of what the numbers mean
pub mod Call
-- The best case of a list of numbers
pub mod Best
