pub mod Slots
pub mod Records
pub mod Forms
pub mod Formed
pub mod HeldLogs
pub mod FoundArrays
