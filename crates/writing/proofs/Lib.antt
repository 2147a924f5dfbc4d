-- Text put into a room
pub mod Putting
-- Numbers in decimal
pub mod Decimals
-- What is written, read back
pub mod ReadBack
-- What is told of a text
pub mod Told
