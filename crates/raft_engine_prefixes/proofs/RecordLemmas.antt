-- What is left of both queues has the records.
use Rattle.raft_engine_prefixes.proofs.Common.{ℕ, List, EntryIndex, Append, Rewrite, Version, RegionStep, Tables, Ask, NumberedBytes, acts_on, IsLeftOf, Records, Deed, IsSafe, LoseNothing, lose_nothing, AreDone, HoldRecords}
use Rattle.raft_engine_prefixes.proofs.DoneLemmas.{left_of_done}

pub records_held : (content : EntryIndex → List ℕ) (base : ℕ → Records) (version : Version) (asked : List Ask) (appended rewritten : List Deed)
    (append_files rewrite_files : List NumberedBytes) → LoseNothing content base appended rewritten → AreDone Append version (acts_on Append asked) appended
    → AreDone Rewrite version (acts_on Rewrite asked) rewritten → IsLeftOf Append asked append_files → IsLeftOf Rewrite asked rewrite_files
    → HoldRecords content base version appended rewritten append_files rewrite_files
records_held content base version asked appended rewritten append_files rewrite_files lose d e l m =
    let a = left_of_done Append version asked appended append_files d l in
    let r = left_of_done Rewrite version asked rewritten rewrite_files e m in
    record {
      append = a;
      rewrite = r;
      readable = lose.readable a.standing a.left r.standing r.left a.is_left r.is_left;
      found = λ found cleaned both. lose.found a.standing a.left r.standing r.left a.is_left r.is_left found cleaned both;
    }

pub safe_records_held : (content : EntryIndex → List ℕ) (base : ℕ → Records) (version : Version) (asked : List Ask) (appended rewritten : List Deed) (untold : List RegionStep) (tables : Tables)
    (append_files rewrite_files : List NumberedBytes) → IsSafe content base appended rewritten untold tables → AreDone Append version (acts_on Append asked) appended
    → AreDone Rewrite version (acts_on Rewrite asked) rewritten → IsLeftOf Append asked append_files → IsLeftOf Rewrite asked rewrite_files
    → HoldRecords content base version appended rewritten append_files rewrite_files
safe_records_held content base version asked appended rewritten untold tables append_files rewrite_files safe =
    records_held content base version asked appended rewritten append_files rewrite_files (lose_nothing content base appended rewritten untold tables safe)
