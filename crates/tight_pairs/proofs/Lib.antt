-- Rows paired quantile by quantile
pub mod Quantiles
pub mod Pairs
-- Places that are tested
pub mod Places
-- Rows paired in the lent words
pub mod Matched
