-- What a call leaves
pub mod Call
