-- What a head says
pub mod Head
-- Heads in order
pub mod Row
