-- Before the first node, and the predecessors of a node one after the other
pub mod Starts
