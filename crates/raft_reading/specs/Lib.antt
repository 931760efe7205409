pub mod Common
pub mod FilesRead
pub mod Headers
pub mod IoErrors
pub mod Pieces
pub mod QueueRead
