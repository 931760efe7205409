mod Common
pub mod BlockLemmas
pub mod PrefixLemmas
