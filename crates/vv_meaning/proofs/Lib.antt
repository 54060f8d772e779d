pub mod Days
pub mod FurtherDays
pub mod ByteDays
pub mod Deeds
pub mod Moves
pub mod Fitting
pub mod Filled
