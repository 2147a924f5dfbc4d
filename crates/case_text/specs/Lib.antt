pub mod Rooms
pub mod Reports
