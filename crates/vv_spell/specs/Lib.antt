pub mod Window
pub mod Runs
pub mod Hosts
