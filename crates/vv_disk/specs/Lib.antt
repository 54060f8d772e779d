pub mod Images
pub mod ImageLaws
pub mod MemDisk
pub mod MemDiskLaws
pub mod Record
pub mod Kept
pub mod FileDisk
pub mod FileFields
