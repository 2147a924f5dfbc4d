-- A list filled from the front
pub mod Prefixes
-- Bytes weighed, and bytes that are all zero
pub mod Bytes
-- A block judged
pub mod Judged
-- The bytes of a block stored
pub mod Stored
-- What is asked of any bytes
pub mod AnyBytes
