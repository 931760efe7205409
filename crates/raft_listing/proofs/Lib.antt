mod Common
pub mod WalkLemmas
pub mod TextLemmas
pub mod LossLemmas
pub mod ShownLemmas
pub mod SumLemmas
