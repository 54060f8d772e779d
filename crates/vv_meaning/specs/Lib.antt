pub mod Asks
pub mod Told
pub mod Commands
pub mod Calls
pub mod Meaning
pub mod Steps
pub mod Forms
