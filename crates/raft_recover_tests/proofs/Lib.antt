pub mod FallingFiles
