-- The lines of a curve, put one by one
pub mod CurveLines
-- The lines of the cores
pub mod CoreLines
