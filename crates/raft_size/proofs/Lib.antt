mod Common
pub mod SizeDigitLemmas
pub mod SizeExponentLemmas
pub mod SizeLawLemmas
pub mod SizeNumberLemmas
pub mod SizePrintLemmas
pub mod SizeScalingLemmas
pub mod SizeTextLemmas
