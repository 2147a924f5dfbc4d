-- What an access does to cells
pub mod Access
-- Units by mask
pub mod Summing
-- Rows on their way
pub mod Moving
-- Rows that choose cells
pub mod CellsChosen
-- Rows split among the ways
pub mod RowsSplit
-- What an access sends on, added up
pub mod Sent
-- An access, from slot to slot
pub mod Accessed
pub mod Advanced
pub mod Holds
-- Rows of all contents, sent on
pub mod RowsSummed
pub mod RowsMoved
-- Rows that are sent, by the grid that they come from
pub mod SumsMeant
pub mod CellsMeant
-- The stage of an access
pub mod ColumnsCounted
-- An access, part by part
pub mod Passing
pub mod Delivered
-- The steps of an access, one after the other
pub mod RowsReady
pub mod SlotReady
pub mod Fitting
pub mod AccessReady
