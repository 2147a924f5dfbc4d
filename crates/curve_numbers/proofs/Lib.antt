-- Where the parts of a list of numbers end
pub mod Places
-- the choice that may stand before them
pub mod Choices
