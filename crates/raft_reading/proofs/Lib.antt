mod Common
pub mod SettledLemmas
pub mod StopLemmas
pub mod PieceLemmas
pub mod QueueLemmas
