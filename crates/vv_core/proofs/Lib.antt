mod Placed
mod Kept
mod WaitingSteps
mod EventRooms
mod FreshTold
mod TurnWalk
mod FittingEvents
mod ReplayedRecords
mod LowestPlaces
mod PlacedEvents
pub mod AreaFits
pub mod PlanTexts
mod DeedPlans
mod PlainRows
mod TellableRefusals
mod EventForms
mod CommandPlans
mod TurnPlans
mod PlainPlans
mod UnmapPlans
mod ToldCores
