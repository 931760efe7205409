pub mod Errors
pub mod Fixed
pub mod Reading
pub mod Varint
pub mod Zigzag
pub use Rattle.byteorder.specs.Endian
