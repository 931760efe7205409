mod Common
pub mod CoverLemmas
pub mod CutBatchLemmas
pub mod CutBytesLemmas
pub mod CutPartLemmas
pub mod FewRecordLemmas
pub mod MachineOrderLemmas
pub mod LiningLemmas
pub mod MergeLemmas
pub mod ReplayedLemmas
pub mod SegmentLemmas
pub mod StopLemmas
pub mod WalkLemmas
pub mod Words
pub mod WrittenPartLemmas
pub mod WorkedLemmas
pub mod Passed
