-- Reading finds a listing exactly where there is one
pub mod Reading
-- The first pass
pub mod Counts
