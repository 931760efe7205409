mod Common
pub mod OpeningLemmas
pub mod TextLemmas
pub mod PrintedLemmas
pub mod FoundLemmas
pub mod CutLemmas
pub mod FaultLemmas
pub mod JsonLemmas
