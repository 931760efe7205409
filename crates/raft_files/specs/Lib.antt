-- what is asked
pub mod Asks
pub mod AskCode
pub mod Notes
pub mod Appends
-- what is left
pub mod Disk
pub mod Places
pub mod HeldFiles
pub mod MemoryFaults
pub mod HeldFilesView
