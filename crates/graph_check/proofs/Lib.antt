-- What the checks compute
pub mod Checks
