-- What the numbers mean, in order
pub mod Parts
-- where the parts end
pub mod Places
-- the choice that may stand before them
pub mod Choices
