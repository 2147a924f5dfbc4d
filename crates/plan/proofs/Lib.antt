-- The definitions in the order of the code
pub mod Steps
-- Tables whose contents are renamed
pub mod Tables
-- Where units go
pub mod Lands
-- The plan is that of `reduced`
pub mod Reduced
