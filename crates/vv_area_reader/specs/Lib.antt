pub mod Progress
pub mod Heads
pub mod Steps
pub mod Rest
pub mod Told
pub mod Making
