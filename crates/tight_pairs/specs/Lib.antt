-- Pairs of contents, and of their rows
pub mod Joining
pub mod Matching
