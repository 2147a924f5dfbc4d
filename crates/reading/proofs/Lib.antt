-- One word behind another
pub mod Appended
-- One byte of a text
pub mod Steps
-- The words of a text, read byte by byte
pub mod Scanning
-- What a caller knows
pub mod Calls
