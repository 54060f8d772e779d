mod Ranges
pub mod Addresses
