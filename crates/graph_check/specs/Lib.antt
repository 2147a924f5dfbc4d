-- The two numbers of an edge
pub mod Edges
