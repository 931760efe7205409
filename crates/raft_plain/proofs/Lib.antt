mod Common
pub mod FileLemmas
pub mod GroupLemmas
pub mod KeyedLemmas
pub mod LiveLemmas
pub mod MarkerLemmas
pub mod OverlayLemmas
pub mod PairLemmas
pub mod PartLemmas
pub mod ReadLemmas
pub mod RecoveryLemmas
pub mod StepLemmas
pub mod TextLemmas
pub mod WaitLemmas
