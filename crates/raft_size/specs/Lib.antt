pub mod Common
pub mod SizeNumber
pub mod SizePrint
pub mod SizeReading
pub mod SizeText
pub mod SizeUnits
pub mod SizeValue
pub use Rattle.toml.specs.View as TomlView
pub use Rattle.serde.specs.Event as SerdeEvent
pub use Rattle.serde.specs.Steps as SerdeSteps
