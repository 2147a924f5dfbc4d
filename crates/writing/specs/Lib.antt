-- Numbers and lines as text
pub mod Writing
-- Text written into lent room
pub mod Put
-- What is told of a text, or refused
pub mod Told
