-- The lines of JSON of what is found in log files, by their data.
use Rattle.std.specs.Prelude.{◌≡◌, ℕ, ◌-◌, Bool, true, false, List, [], ◌∷◌, ◌++◌, codes, map, Option, Some, None}
use Rattle.std.specs.BTreeMap.{BTreeMap, get}
use Rattle.std.specs.FinMap as finite
use Rattle.std.specs.Fmt.{decimal}
use Rattle.std.specs.List.{flat_map}
use Rattle.std.specs.Ordering.{nat_cmp}
use Rattle.hex.specs.Hex.{encode_lower}
use Rattle.raft_base.specs.declared.entry_index.EntryIndex.{EntryIndex}
use Rattle.raft_base.specs.declared.errors.Error.{Error}
use Rattle.raft_base.specs.declared.pipe_log.LogQueue.{LogQueue}
use Rattle.raft_base.specs.declared.pipe_log.LogQueue.TheVariants.{Append, Rewrite}
use Rattle.raft_base.specs.Runs.{end_of}
use Rattle.raft_table.specs.Counts.{live}
use Rattle.raft_table.specs.Least.{least_of}
use Rattle.raft_table.specs.Table.{Table}
use Rattle.raft_table.specs.TableEntries.{start_of}
use Rattle.raft_accessor.specs.Accessor.{Accessor}
use Rattle.raft_reading.specs.declared.queue_files.FileSize.{FileSize}
use Rattle.raft_recover.specs.TableLines.{AreByRegion}
use Rattle.raft_replay.specs.Stops.{queue_text}
use Rattle.raft_listing.specs.LossWords.{loss_words}
use Rattle.raft_listing.specs.Missing.{missing_between}
use Rattle.raft_listing.specs.Reasons.{reason_text}
use Rattle.raft_listing.specs.declared.damage.Damage.{Damage}
use Rattle.raft_listing.specs.declared.damage.DamageKind.{DamageKind}
use Rattle.raft_listing.specs.declared.damage.DamageKind.TheVariants.{Batch, Entries}
use Rattle.raft_listing.specs.declared.damage.Loss.{Loss}
use Rattle.raft_listing.specs.declared.scan.FileScan.{FileScan}
use Rattle.raft_report.specs.JsonData.{count, count_if, json_line, list_of, object_of}
use Rattle.raft_report.specs.declared.uses.FileUse.{FileUse}
use Rattle.serde_json.specs.Data.{Data, null, string}
use Rattle.serde_json.specs.Written.{compact_text}

-- ---- files

-- a queue by its name
abbrev pub queue_data : LogQueue → Data
queue_data queue = string (queue_text queue)

-- that no batch can be read at an offset, and why
abbrev pub unreadable_data : ℕ → Error → Data
unreadable_data offset e =
    object_of ((codes "kind", string (codes "batch")) ∷ (codes "offset", count offset) ∷ (codes "why", string (reason_text e)) ∷ [])

-- that entries of a region, by the first and the last index, can't be read, and why
abbrev pub lost_data : ℕ → ℕ → ℕ × ℕ → Loss → Data
lost_data offset region entries loss =
    object_of ((codes "first", count entries.0) ∷ (codes "kind", string (codes "entries")) ∷ (codes "last", count entries.1) ∷ (codes "offset", count offset) ∷ (codes "region", count region) ∷ (codes "why", string (loss_words loss)) ∷ [])

-- what can't be read at an offset: a batch; or entries of one
abbrev pub loss_data : ℕ → DamageKind → Data
loss_data offset (Batch e) = unreadable_data offset e
loss_data offset (Entries region first last loss) = lost_data offset region (first, last) loss

-- a place where something can't be read
abbrev pub damage_data : Damage → Data
damage_data d = loss_data d.offset d.kind

-- what a scan of a file finds
abbrev pub scan_data : LogQueue → FileScan → Data
scan_data queue scan =
    object_of ((codes "batches", count scan.batches) ∷ (codes "bytes", count scan.len) ∷ (codes "damage", list_of (map damage_data scan.damages.items)) ∷ (codes "file", count scan.seq) ∷ (codes "queue", queue_data queue) ∷ (codes "read", count scan.read) ∷ (codes "unseen", count scan.unseen) ∷ [])

-- files that are missing, by the first and the last number
abbrev pub missing_data : LogQueue → ℕ × ℕ → Data
missing_data queue numbers =
    object_of ((codes "missing_from", count numbers.0) ∷ (codes "missing_to", count numbers.1) ∷ (codes "queue", queue_data queue) ∷ [])

-- the line for files that are missing, if some are
abbrev pub missing_json : LogQueue → Option (ℕ × ℕ) → List ℕ
missing_json queue None = []
missing_json queue (Some numbers) = json_line (missing_data queue numbers)

-- the lines for files that are missing before each of these numbers
abbrev pub missing_files_json : LogQueue → Option ℕ → List ℕ → List ℕ
missing_files_json queue last [] = []
missing_files_json queue last (seq ∷ seqs) = missing_json queue (missing_between last seq) ++ missing_files_json queue (Some seq) seqs

-- the lines of what a scan of a file finds, behind the file of this number
abbrev pub scan_json : LogQueue → Option ℕ → FileScan → List ℕ
scan_json queue last scan = missing_json queue (missing_between last scan.seq) ++ json_line (scan_data queue scan)

-- that a queue has no files
abbrev pub no_files_data : LogQueue → Data
no_files_data queue = object_of ((codes "files", count 0) ∷ (codes "queue", queue_data queue) ∷ [])

-- so many bytes that were cut off, and the path of the file that keeps them
abbrev pub kept_data : ℕ → List ℕ → Data
kept_data len path = object_of ((codes "bytes", count len) ∷ (codes "kept", string path) ∷ [])

-- ---- tables

-- the first index of entries, if there are some
abbrev pub first_of : List EntryIndex → Option ℕ
first_of [] = None
first_of (e ∷ es) = Some (start_of (e ∷ es))

-- the last one
abbrev pub last_of : List EntryIndex → Option ℕ
last_of [] = None
last_of (e ∷ es) = Some (end_of (e ∷ es) - 1)

-- a key and its value
abbrev pub key_value_data : List ℕ × List ℕ → Data
key_value_data pair = object_of ((codes "key", string (encode_lower pair.0)) ∷ (codes "value", string (encode_lower pair.1)) ∷ [])

-- the line of a table: its least append file, its first and its last index, how many keys it has, this text for its pairs, its region, and its least rewrite file
abbrev pub table_front : Table → List ℕ
table_front t =
    codes "{\"append\":" ++ (compact_text (count_if (least_of Append t)) ++ (codes ",\"first\":" ++ (compact_text (count_if (first_of t.entries)) ++ (codes ",\"keys\":" ++ (decimal (finite.len t.keys) ++ (codes ",\"last\":" ++ (compact_text (count_if (last_of t.entries)) ++ codes ",\"pairs\":")))))))

abbrev pub table_back : Table → List ℕ
table_back t =
    codes ",\"region\":" ++ (decimal t.region_id ++ (codes ",\"rewrite\":" ++ (compact_text (count_if (least_of Rewrite t)) ++ codes "}\n")))

abbrev pub region_json : Table → List ℕ → List ℕ
region_json t pairs = table_front t ++ (pairs ++ table_back t)

-- it comes behind the old text: with no pairs, or where they are asked for with some text for them
abbrev pub IsRegionAdded : Table → Bool → List ℕ → List ℕ → Type 0
IsRegionAdded t false old new = new ≡ old ++ region_json t (compact_text null)
IsRegionAdded t true old new = (pairs : List ℕ) × (new ≡ old ++ region_json t pairs)

-- the line of a table without its pairs
abbrev pub table_json : Table → List ℕ
table_json t = region_json t (compact_text null)

-- the cleaned regions, and how many records are live in each queue
abbrev pub totals_data : Accessor → Data
totals_data accessor =
    object_of ((codes "cleaned", list_of (map count accessor.cleaned)) ∷ (codes "live_append", count (live Append accessor.counts)) ∷ (codes "live_rewrite", count (live Rewrite accessor.counts)) ∷ [])

-- the lines of all tables by rising region, without their pairs, and the line of the cleaned regions and of how many records are live
pub record IsJsonOfTables (accessor : Accessor) (text : List ℕ) : Type 0 where
  pub tables : List Table
  pub by_region : AreByRegion accessor.tables tables
  pub lines : text ≡ flat_map table_json tables ++ json_line (totals_data accessor)

-- ---- what tables need of files

-- how many bytes of entries are live in a file, and the regions whose oldest file it is
abbrev pub live_in : Option FileUse → ℕ
live_in None = 0
live_in (Some u) = u.live

abbrev pub regions_of : Option FileUse → List ℕ
regions_of None = []
regions_of (Some u) = u.regions.items

-- a file, and what is needed of it
abbrev pub use_data : LogQueue → FileSize → Option FileUse → Data
use_data queue size file_use =
    object_of ((codes "bytes", count size.len) ∷ (codes "file", count size.seq) ∷ (codes "live", count (live_in file_use)) ∷ (codes "queue", queue_data queue) ∷ (codes "regions", list_of (map count (regions_of file_use))) ∷ [])

-- the lines of files
abbrev pub uses_json : LogQueue → BTreeMap ℕ FileUse → List FileSize → List ℕ
uses_json queue uses sizes = flat_map (λ size. json_line (use_data queue size (get nat_cmp uses size.seq))) sizes
