-- Where the units of contents go
pub mod Access
-- Rows on their way
pub mod Moving
-- Rows that choose cells
pub mod Selecting
-- Rows of contents that can lose a block
pub mod Splitting
-- An access, from slot to slot
pub mod Accessed
-- Rows of all contents, sent on
pub mod Sending
-- The stage of an access
pub mod Grouping
-- An access, part by part
pub mod Passing
