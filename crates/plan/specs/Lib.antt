-- The plan of a reduction, in words
pub mod Plan
-- Which mask a level comes to next
pub mod Next
