pub mod LineLemmas
pub mod ReaderLemmas
pub mod TakingLemmas
pub mod EndedLemmas
