-- walks through parts of files
pub mod Walks
-- entries whose bytes can be read
pub mod SoundParts
-- what a scan says of what it meets
pub mod Scanned
-- what the numbers of a scan say of all that it has met
pub mod ScanSums
-- neighbors that can't be read
pub mod Stretches
-- the text of a dump
pub mod Dumped
-- entry blocks that were read once
pub mod ReadBlocks
-- why entries can't be read, in words
pub mod LossWords
-- numbers of files that are missing
pub mod Missing
-- why something can't be read or is refused, in words
pub mod Reasons
