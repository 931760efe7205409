mod Common
pub mod HeldLemmas
pub mod LastLemmas
pub mod LeftLemmas
