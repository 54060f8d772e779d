pub mod Bits
pub mod Uses
pub mod Pool
pub mod FreshPlaces
