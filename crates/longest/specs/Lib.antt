-- What the longest path looks at
pub mod Graph
