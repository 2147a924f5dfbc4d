-- A state's partner in a fold
pub mod Partners
