pub mod Common
pub mod Groups
pub mod Overlaid
pub mod Parts
pub mod Plain
pub mod Readings
pub mod Waits
