-- What the inner functions do for each other
pub mod Working
