-- How long the text is
pub mod Lengths
-- What is printed for numbers that are accepted
pub mod Printed
-- What is printed for numbers that begin with a choice
pub mod Choices
-- What a call leaves in its rooms
pub mod Rooms
-- What a curve says, read back
pub mod ReadBack
