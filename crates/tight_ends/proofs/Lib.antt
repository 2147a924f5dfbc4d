-- Columns of a table
pub mod Columns
-- Row ends
pub mod Ending
pub mod FilledNumbers
pub mod Settled
pub mod EndsFound
pub mod RowsGathered
pub mod RowsKept
pub mod Assembled
pub mod FilledFound
pub mod FilledPut
pub mod Ended
