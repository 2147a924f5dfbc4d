-- The row, and what is answered about it
pub mod Row
