-- The best case's verdict
pub mod Further
