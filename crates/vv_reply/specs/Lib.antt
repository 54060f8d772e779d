pub mod Objects
pub mod Runs
pub mod Values
pub mod Replies
