-- What is left where a call is refused and where it is not
pub mod Leaving
