pub mod SourceLemmas
pub mod RegionLemmas
pub mod WordLemmas
