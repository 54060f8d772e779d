pub mod WindowLemmas
pub mod Sums
pub mod Fits
pub mod Heads
pub mod Found
pub mod Running
pub mod HostContexts
pub mod Pieces
