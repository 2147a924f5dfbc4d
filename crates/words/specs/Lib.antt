-- The first states of a table in words
pub mod Span
-- Tables in lent words
pub mod Tables
-- The best case's tables in words
pub mod BestTables
-- What is handed over
pub mod Handing
