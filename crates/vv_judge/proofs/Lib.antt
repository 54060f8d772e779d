pub mod Orders
pub mod Shapes
pub mod Walks
pub mod Ranges
pub mod CopySizes
pub mod Writes
pub mod Verdicts
