-- Where the parts of a listing's numbers end
pub mod Places
-- The curve program's input for a listing
pub mod Inputs
-- That the curve program reads what the listing program writes
pub mod Piped
