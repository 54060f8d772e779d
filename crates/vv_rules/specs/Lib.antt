pub mod Least
pub mod Pairs
pub mod Rows
