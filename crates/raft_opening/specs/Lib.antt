pub mod SizedFiles
pub mod FolderPaths
pub mod NamedBatches
pub mod ReadOnce
