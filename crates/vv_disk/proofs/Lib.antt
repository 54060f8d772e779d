pub mod Bytes
pub mod Moments
mod Calls
mod Keeping
mod Pending
mod Records
