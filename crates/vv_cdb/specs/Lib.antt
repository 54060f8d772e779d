pub mod Senses
pub mod Numbers
pub mod Cdbs
pub mod UnmapLists
