pub mod FileRanges
