-- Proofs of the functions for C.
pub mod Given
pub mod NeverEmpty
