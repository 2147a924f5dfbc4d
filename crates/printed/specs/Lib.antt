-- The numbers that a curve says
pub mod Numbers
-- What is printed, or refused
pub mod Printed
-- which cache it is beside its ways
pub mod Choices
-- The curve's text
pub mod Curve
-- The curves in cycles
pub mod Cycles
-- what a call leaves
pub mod Rooms
-- which text is wanted
pub mod Wanted
