-- How many words there are
pub mod Sizes
-- The verdict
pub mod Judging
