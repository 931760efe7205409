-- what steps, effects and histories are: what the promise of recovery rests on
pub mod Common
pub mod RegionSteps
pub mod RegionStepShown
pub mod Batches
pub mod Effects
pub mod Histories
-- the same in other words, and what else is said of histories
pub mod Stretches
pub mod LeastFiles
pub mod GoingOn
pub mod BothQueues
pub mod RewrittenRecords
pub mod ReplayMachine
-- what contexts hold of histories, which recovery's promise doesn't name
pub mod MarkedRegions
pub mod WaitingGroup
pub mod WaitingGroups
pub mod Contexts
pub mod Joins
pub mod Records
pub mod Kept
