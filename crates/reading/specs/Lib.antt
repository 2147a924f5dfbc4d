-- Well-formed text, and the numbers in it
pub mod Reading
-- What a call leaves
pub mod Call
-- reading byte by byte
pub mod Standing
-- what is found in a text
pub mod Found
