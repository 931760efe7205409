mod Common
pub mod DrawingLemmas
pub mod WeightLemmas
