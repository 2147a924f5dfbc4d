-- How many choice sequences there are, and that each is listed once
pub mod Draws
-- What the ways hold after an access
pub mod Ways
