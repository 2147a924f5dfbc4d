-- What the loops compute
pub mod Lives
-- What the numbers say
pub mod Nodes
