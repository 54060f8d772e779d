pub mod Plans
pub mod BitRanges
pub mod TaskRecords
pub mod SeenArrays
pub mod CommandAsks
pub mod SeenQueues
pub mod FitDeeds
