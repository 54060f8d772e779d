pub mod Causes
pub mod Sizes
pub mod Identifiers
pub mod Names
pub mod Pairs
