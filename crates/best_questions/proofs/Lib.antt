-- What makes a table
pub mod Fitting
-- What a spread answers
pub mod Answered
