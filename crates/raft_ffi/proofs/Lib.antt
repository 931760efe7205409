mod Common
mod Walks
pub mod HandleSteps
pub mod HandleKinds
pub mod MoveSteps
pub mod SendSteps
pub mod DrainLemmas
pub mod CodeLemmas
pub mod StringLemmas
pub mod OrderLemmas
pub mod PairLemmas
mod ReadLemmas
