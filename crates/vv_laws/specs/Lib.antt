pub mod Logs
pub mod Units
pub mod VolatileForm
pub mod Counts
pub mod GoneEntries
