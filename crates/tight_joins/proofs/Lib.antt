-- Heights
pub mod Piled
-- Pairs that meet
pub mod PairsMet
pub mod RowsPaired
