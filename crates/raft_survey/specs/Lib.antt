-- walks through files that are read in pieces
pub mod FileWalks
-- what scans of files say
pub mod FileScans
-- the lines of a check
pub mod Reported
-- what is dumped of files
pub mod DumpedFiles
-- files in which everything can be read
pub mod SoundFiles
