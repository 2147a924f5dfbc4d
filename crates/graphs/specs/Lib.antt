-- The text of a listing, and the curve program's input
pub mod Listings
-- what a call for it leaves
pub mod GraphRooms
