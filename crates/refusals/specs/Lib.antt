-- The best case's reasons, put into the graph call's verdict
pub mod Further
