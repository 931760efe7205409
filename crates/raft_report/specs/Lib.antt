-- why something isn't printed to its end
pub mod Faults
-- the words of lines of JSON
pub mod JsonData
-- the lines of JSON of what is found in log files
pub mod JsonLines
-- the lines of JSON of a dump
pub mod JsonItems
-- pieces of lines of JSON
pub mod JsonPieces
