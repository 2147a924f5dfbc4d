-- What is live at the start of each node
pub mod Starts
