pub mod Spelling
pub mod Repeats
pub mod Pairs
pub mod Behind
pub mod Differ
pub mod Identified
pub mod LineReading
