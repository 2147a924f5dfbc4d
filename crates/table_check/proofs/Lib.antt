-- Whether states are a table
pub mod Fitting
-- Which of two stands before
pub mod Standing
