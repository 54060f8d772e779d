pub mod Seen
pub mod Hosts
pub mod Differences
pub mod Blocks
