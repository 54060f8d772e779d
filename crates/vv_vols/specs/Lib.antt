pub mod Shelf
pub mod Calls
pub mod Conditions
pub mod Rows
pub mod Places
pub mod Pages
pub mod Rooms
