-- When two states stand in the same place
pub mod Same
-- The filled numbers
pub mod Numbers
-- What an access makes of a state
pub mod Steps
