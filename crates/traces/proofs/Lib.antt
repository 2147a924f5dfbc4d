-- What is said of a trace
pub mod Saying
