mod Common
mod RestLemmas
pub mod SizedLemmas
pub mod SizedReadLemmas
mod NamedLemmas
mod PathLemmas
pub mod OnceLemmas
