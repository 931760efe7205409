mod Common
pub mod WalkedLemmas
pub mod SoundLemmas
pub mod SeenLemmas
pub mod FaultLemmas
pub mod TextLemmas
pub mod DumpLemmas
