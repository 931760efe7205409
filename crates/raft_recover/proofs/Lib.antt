mod Common
pub mod FewFileLemmas
pub mod FileLemmas
pub mod FileRecoveryLemmas
pub mod NamedFileLemmas
pub mod OrderLemmas
pub mod RecoveryLemmas
pub mod RequestLemmas
pub mod ShareLemmas
pub mod ScanLemmas
pub mod ScanRequestLemmas
pub mod TurnLemmas
