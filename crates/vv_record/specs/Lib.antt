pub mod Reading
pub mod Forms
pub mod Records
pub mod Spelling
