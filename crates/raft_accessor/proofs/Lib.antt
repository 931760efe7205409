mod Common
mod AccessorLemmas
mod AppendCheckLemmas
mod KnownExtentLemmas
pub mod LiveLemmas
pub mod MapLemmas
mod MergeLemmas
pub mod OrderLemmas
pub mod RegionTablesLemmas
pub mod SlotLemmas
pub mod SlotTableLemmas
mod TableJoinLemmas
pub mod TotalSums
mod UpdateLemmas
pub mod WalkLemmas
pub mod WriteLemmas
