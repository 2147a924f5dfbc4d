-- Facts about tests
pub mod Bools
-- Through a list
pub mod Lists
-- Sums over lists and over numbers
pub mod Sums
