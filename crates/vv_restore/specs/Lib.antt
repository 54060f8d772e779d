pub mod Restoring
pub mod Reading
