-- what the words of a command ask for
pub mod Words
-- the files that a command looks into
pub mod Sources
-- what the commands do with found files
pub mod Commands
-- what outputs hold
pub mod Outputs
