mod ShapeTold
pub mod AskedBits
pub mod TasksAfter
mod PieceCounts
mod ReplyRows
pub mod UnitSizes
mod UnmapRanges
pub mod LowActions
mod FitActions
mod QueueRows
pub mod PlannedRows
