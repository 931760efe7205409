-- The lines of a check: what a scan of a file finds, and which files are missing.
use Rattle.std.specs.Prelude.{ℕ, ◌-◌, nat_eq, List, [], ◌∷◌, ◌++◌, codes, Option, Some, None, if◌then◌else◌}
use Rattle.std.specs.Fmt.{decimal}
use Rattle.std.specs.List.{flat_map}
use Rattle.raft_base.specs.declared.errors.Error.{Error}
use Rattle.raft_base.specs.declared.pipe_log.LogQueue.{LogQueue}
use Rattle.raft_replay.specs.Stops.{queue_text}
use Rattle.raft_listing.specs.LossWords.{loss_words}
use Rattle.raft_listing.specs.Missing.{missing_between}
use Rattle.raft_listing.specs.Reasons.{reason_text}
use Rattle.raft_listing.specs.declared.damage.Damage.{Damage}
use Rattle.raft_listing.specs.declared.damage.DamageKind.{DamageKind}
use Rattle.raft_listing.specs.declared.damage.DamageKind.TheVariants.{Batch, Entries}
use Rattle.raft_listing.specs.declared.damage.Loss.{Loss}
use Rattle.raft_listing.specs.declared.scan.FileScan.{FileScan}

-- ---- files

-- how many batches there are
abbrev pub batches_words : ℕ → List ℕ
batches_words count = if nat_eq count 1 then codes "1 batch" else decimal count ++ codes " batches"

-- the number of a file, and how many bytes it has
abbrev pub length_words : LogQueue → ℕ → ℕ → List ℕ
length_words queue seq len = queue_text queue ++ (codes " file " ++ (decimal seq ++ (codes ": " ++ (decimal len ++ codes " bytes, "))))

-- up to which byte from its first one on a file can be read
abbrev pub end_words : ℕ → List ℕ
end_words read = codes ", read from offset 0 to " ++ (decimal read ++ codes "\n")

-- the line of a file: how many bytes it has, how many batches of it can be read, and up to which byte from its first one on
abbrev pub file_line : LogQueue → FileScan → List ℕ
file_line queue scan =
    length_words queue scan.seq scan.len ++ (batches_words scan.batches ++ end_words scan.read)

-- the place in a file, in front of what is said of it
abbrev pub place_words : LogQueue → ℕ → ℕ → List ℕ
place_words queue seq offset =
    codes "  " ++ (queue_text queue ++ (codes " file " ++ (decimal seq ++ (codes " offset " ++ (decimal offset ++ codes ": ")))))

-- that no batch can be read so many bytes before the end of a file, and why
abbrev pub unreadable_words : ℕ → Error → List ℕ
unreadable_words left e = codes "no batch can be read there, " ++ (decimal left ++ (codes " bytes before the end: " ++ reason_text e))

-- entries by the first and the last index
abbrev pub entries_words : ℕ → ℕ → List ℕ
entries_words first last =
    if nat_eq first last then codes "entry " ++ decimal first else (codes "entries " ++ (decimal first ++ (codes " to " ++ decimal last)))

-- that some of these entries of a region can't be read, and why
abbrev pub lost_words : ℕ → ℕ → ℕ → Loss → List ℕ
lost_words region first last loss =
    entries_words first last ++ (codes " of region " ++ (decimal region ++ (codes " can't be read: " ++ loss_words loss)))

-- what can't be read at an offset of a file of this length
abbrev pub damage_words : ℕ → ℕ → DamageKind → List ℕ
damage_words len offset (Batch e) = unreadable_words (len - offset) e
damage_words len offset (Entries region first last loss) = lost_words region first last loss

-- the line of a place where something can't be read
abbrev pub damage_line : LogQueue → ℕ → ℕ → Damage → List ℕ
damage_line queue seq len d = place_words queue seq d.offset ++ (damage_words len d.offset d.kind ++ codes "\n")

-- that so many bytes weren't searched for batches
abbrev pub unsearched_words : ℕ → List ℕ
unsearched_words count = codes "the " ++ (decimal count ++ codes " bytes from there on weren't searched for batches\n")

-- the line of the bytes at the end of a file that weren't searched for batches
abbrev pub unsearched_line : LogQueue → FileScan → List ℕ
unsearched_line queue scan = place_words queue scan.seq (scan.len - scan.unseen) ++ unsearched_words scan.unseen

-- it, if there are such bytes
abbrev pub unseen_line : LogQueue → FileScan → List ℕ
unseen_line queue scan = if nat_eq scan.unseen 0 then [] else unsearched_line queue scan

-- ---- files that are missing

-- that the files with these numbers are missing
abbrev pub missing_words : ℕ → ℕ → List ℕ
missing_words first last =
    if nat_eq first last then codes " file " ++ (decimal first ++ codes ": missing\n")
    else (codes " files " ++ (decimal first ++ (codes " to " ++ (decimal last ++ codes ": missing\n"))))

-- the line for files that are missing
abbrev pub missing_line : LogQueue → Option (ℕ × ℕ) → List ℕ
missing_line queue None = []
missing_line queue (Some numbers) = queue_text queue ++ missing_words numbers.0 numbers.1

-- the lines for files that are missing before each of these numbers
abbrev pub missing_text : LogQueue → Option ℕ → List ℕ → List ℕ
missing_text queue last [] = []
missing_text queue last (seq ∷ seqs) = missing_line queue (missing_between last seq) ++ missing_text queue (Some seq) seqs

-- ---- all of it

-- the lines of what a scan of a file finds, behind the file of this number: which files are missing, the file, each place where something can't be read, and where it wasn't searched
abbrev pub scan_text : LogQueue → Option ℕ → FileScan → List ℕ
scan_text queue last scan =
    missing_line queue (missing_between last scan.seq) ++ (file_line queue scan ++ (flat_map (damage_line queue scan.seq scan.len) scan.damages.items ++ unseen_line queue scan))

-- the line of a queue that has no files
abbrev pub no_files_line : LogQueue → List ℕ
no_files_line queue = queue_text queue ++ codes ": no files\n"
