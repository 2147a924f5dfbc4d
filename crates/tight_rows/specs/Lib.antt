-- Where everything stands in the lent words
pub mod Room
-- What the words of a table mean
pub mod Grid
-- Rows of words
pub mod Rows
-- Rows opened for masks
pub mod Numbers
