-- The ends of the nodes
pub mod Ends
