-- Rows of cells and heights
pub mod Piling
-- What the pairs of two tables' rows come to
pub mod Meeting
