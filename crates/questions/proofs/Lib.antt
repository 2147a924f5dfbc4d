-- What is asked of a table
pub mod Amounts
-- What a spread answers
pub mod Answered
-- What is asked in cycles
pub mod InCycles
