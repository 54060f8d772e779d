pub mod Geometries
pub mod Header
pub mod Half
pub mod Log
pub mod Calls
pub mod Switches
pub mod Openings
