pub mod Copied
pub mod Reverted
pub mod Effects
pub mod PutChunks
pub mod Filling
pub mod Behind
