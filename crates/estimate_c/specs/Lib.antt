-- What the functions for C leave.
pub mod Given
-- What the best case's functions give
pub mod Best
