-- files whose last one may end in a torn tail
pub mod TornTails
-- what a disk leaves of the batches that were put
pub mod Prefixes
-- what is done to a queue
pub mod Done
-- the contents of entries
pub mod Contents
-- where the bytes of entries stand and end
pub mod EntryPlaces
-- what is read on disks that write in any order
pub mod AnyTails
