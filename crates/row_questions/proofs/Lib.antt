-- The states that a row stands for
pub mod Standing
-- What is answered
pub mod Answered
-- The questions in cycles
pub mod InCycles
-- The row of a table
pub mod OfTable
