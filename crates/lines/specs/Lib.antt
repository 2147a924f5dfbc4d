-- The lines of a curve
pub mod Lines
-- and in cycles
pub mod Cores
-- they from the units at each miss count
pub mod Counts
