-- A slot before the row ends
pub mod Stage
-- The row ends
pub mod Settling
pub mod Ending
pub mod Keeping
pub mod Ended
