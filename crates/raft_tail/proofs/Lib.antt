mod Common
pub mod BrokenLemmas
pub mod HeaderLemmas
pub mod PassingLemmas
pub mod SearchLemmas
pub mod SignerLemmas
pub mod WholeLemmas
