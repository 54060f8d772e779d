pub mod Queues
pub mod Addresses
