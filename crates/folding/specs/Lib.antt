-- When folds end, and when the search for a partner does
pub mod Ends
-- How good a partner is
pub mod Partners
