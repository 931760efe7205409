-- what stands from a byte of a part of a file on
pub mod Tails
-- how items are passed over
pub mod Passing
