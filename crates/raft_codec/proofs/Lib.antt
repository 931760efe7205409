mod Common
pub mod FixedLemmas
pub mod FixedOrder
pub mod ReadingLemmas
pub mod SequenceLemmas
pub mod VarintLemmas
