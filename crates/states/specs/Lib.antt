-- The filled numbers, as words add
pub mod Filling
-- What an access makes of a state
pub mod Step
