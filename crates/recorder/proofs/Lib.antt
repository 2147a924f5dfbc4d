-- A trace, block by block
pub mod Traces
-- What stands at the front of a room
pub mod Fronts
-- The accesses of a block copied, and of a trace
pub mod Copied
-- The blocks of a trace stored
pub mod Stored
-- What a call leaves
pub mod Calls
-- One byte changed
pub mod OneByte
-- What is written, read back
pub mod ReadBack
-- The damaged places of a trace
pub mod Places
-- The promises
pub mod Promises
-- Worked blocks
pub mod WorkedBlocks
