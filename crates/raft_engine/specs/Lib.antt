-- the engine
pub mod KeptEngine
-- where files fail
pub mod FileFailures
pub mod Broken
-- what lasts of it
pub mod CutFiles
pub mod JoinedFiles
pub mod Lasting
-- what is stored of it, and what each ask makes of that
pub mod Stored
pub mod StoredAsks
-- one batch more
pub mod BatchBytes
pub mod WrittenBatch
-- files that no table needs
pub mod Purged
pub mod KeptEngineCode
pub mod KeptEngineView
-- records that move to the rewrite queue
pub mod Reads
pub mod Parts
pub mod Rewriting
pub mod Unmoved
pub mod MovedAsks
pub mod GroupBatches
pub mod GroupParts
pub mod GroupPlaces
pub mod GroupAsks
pub mod Untaken
pub mod Moved
pub mod MovedGroups
pub mod MovedAgain
-- rewrite files that no table needs
pub mod PurgedRewrites
-- opening
pub mod SoundBlocks
pub mod FoundFiles
pub mod QueueFilesOf
pub mod FileSegments
pub mod Opening
pub mod StoredFound
pub mod Opened
-- reading
pub mod EntryReads
pub mod BlockReads
-- restarts
pub mod Restarts
pub mod OpeningAsks
pub mod CutTails
pub mod TailsFound
pub mod DamagedBatches
pub mod DamagedStretches
pub mod FoundQueues
pub mod ReadQueues
pub mod ReadFound
pub mod NamedEntries
pub mod FoundRecords
pub mod Markers
pub mod RowsShown
pub mod Unopened
pub mod ReadContexts
pub mod OfVersion
pub mod WellPut
-- what was written is what is recovered
pub mod ReadBack
pub mod RoundTrip
-- what was synced stays so
pub mod Moments
pub mod Lives
