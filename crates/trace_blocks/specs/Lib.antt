-- Its fields, and whether it is damaged
pub mod Blocks
-- What is written
pub mod Written
