-- Why what is asked of files in memory fails.
use Rattle.std.specs.Prelude.{◌≡◌, ℕ, ◌<◌, List, length, Some}
use Rattle.raft_base.specs.declared.errors.Error.{Error}
use Rattle.raft_base.specs.declared.errors.Error.TheVariants as errors
use Rattle.raft_files.specs.Asks.{Act, Ask, Begin, Cut, Delete, NumberedBytes, Put, Read}
use Rattle.raft_files.specs.Disk.{files_of}
use Rattle.raft_files.specs.Places.{IsNext, bytes_at}

-- these files of a queue allow it: there is a file to put bytes behind, or to cut; the number of a new one is above that of the last; the last one stays; a place that is read has bytes
abbrev pub Allow : List NumberedBytes → Act → Type 0
Allow files (Put bytes) = 0 < length files
Allow files (Begin seq) = IsNext seq files
Allow files Delete = 1 < length files
Allow files (Cut len) = 0 < length files
Allow files (Read place bytes) = (found : List ℕ) × (bytes_at files place.id.seq place.offset place.len ≡ Some found)
Allow files _ = Unit {0}

-- what the files allow that were asked for fails for want of memory alone
abbrev pub IsMemoryFault : List Ask → Ask → Error → Type 0
IsMemoryFault asked a e = Allow (files_of a.queue asked) a.act → e ≡ errors.Memory
