-- The tables that are kept
pub mod Kept
-- What the loops over slots and nodes find
pub mod Found
-- No two tables that are needed stand in one slot, and few slots are taken
pub mod Apart
