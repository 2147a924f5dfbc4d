-- The first table
pub mod Begun
-- The answer row
pub mod Answering
-- A table copied with what is live
pub mod Copying
