pub mod Enough
pub mod Standing
pub mod Events
pub mod Pieces
pub mod Forms
