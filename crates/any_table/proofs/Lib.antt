-- What the loops compute
pub mod Fitting
-- The units at each count
pub mod Counting
-- What a spread answers
pub mod Answered
