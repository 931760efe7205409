-- what steps speak of, and what they leave
pub mod Speaking
-- kept records beside those that are found
pub mod MovedRecords
-- kept regions and tables
pub mod KeptRegions
pub mod KeptTables
-- a batch more
pub mod NextBatches
-- what the rewrite queue is told
pub mod Telling
-- atomic groups
pub mod Groups
pub mod GroupsInRows
-- records that move
pub mod Moving
-- files that go
pub mod DeletedFiles
-- the bytes of entries
pub mod Contents
-- records, and what an engine does
pub mod Records
pub mod Crashes
-- what region marks tell
pub mod MarksTold
pub mod RowSummaries
pub mod TakenTold
