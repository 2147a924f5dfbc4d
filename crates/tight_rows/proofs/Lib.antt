-- Cells of a table
pub mod Cells
-- The table that a grid stands for
pub mod Grids
-- Words written one after the other
pub mod Writing
-- Rows that are added and split
pub mod Adding
-- Words that have more
pub mod Raising
-- Words there are, and sums of them
pub mod Totals
-- Rows opened for masks
pub mod MasksNumbered
-- Tests of places
pub mod Tests
