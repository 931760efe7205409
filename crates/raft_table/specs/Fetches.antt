-- What the queries of a table's entries fetch.
use Rattle.std.specs.Prelude.{◌≡◌, ℕ, ◌+◌, ◌<◌, ◌≤◌, suc, Bool, true, false, ◌&&◌, List, [], ◌∷◌, ◌++◌, length, take, nat_lt, nat_le, nat_eq, ◌==◌, sum_by, Option, Some, None, if◌then◌else◌}
use Rattle.std.specs.List.{take_while, slice_get}
use Rattle.raft_base.specs.declared.errors.Error.{Error}
use Rattle.raft_base.specs.declared.errors.Error.TheVariants as errors
use Rattle.raft_base.specs.declared.pipe_log.FileBlockHandle.{FileBlockHandle}
use Rattle.raft_base.specs.declared.pipe_log.LogQueue.{LogQueue}
use Rattle.raft_base.specs.declared.pipe_log.LogQueue.TheVariants.{Append}
use Rattle.raft_base.specs.declared.entry_index.EntryIndex.{EntryIndex}
use Rattle.raft_base.specs.Runs.{end_of}
use Rattle.raft_table.specs.TableEntries.{start_of, entries_between, placed_in}
use Rattle.raft_table.specs.Queues.{is_same}
use Rattle.raft_table.specs.Rewriting.{is_placed_before}

-- the total of the lengths of the first n entries
abbrev pub total_len : ℕ → List EntryIndex → ℕ
total_len n es = sum_by (λ e. e.entry_len) (take n es)

-- whether the entry after the first n is one too many: with it the total passes the limit, and exceeds its own length
abbrev pub is_too_many : Option ℕ → ℕ → List EntryIndex → Bool
is_too_many None n es = false
is_too_many (Some limit) n es = nat_lt limit (total_len (suc n) es) && nat_lt 0 (total_len n es)

-- how many entries a limit on their total lets through, from the first on
pub record IsLimitCount (limit : Option ℕ) (es : List EntryIndex) (count : ℕ) : Type 0 where
  pub there : count ≤ length es
  pub fit : (n : ℕ) → n < count → is_too_many limit n es ≡ false
  pub stops : count < length es → is_too_many limit count es ≡ true

-- so many entries as the limit lets through are appended to what was there
pub record FetchesWithin (limit : Option ℕ) (es old new : List EntryIndex) : Type 0 where
  pub count : ℕ
  pub within : IsLimitCount limit es count
  pub appended : new ≡ old ++ take count es

-- what a fetch from begin to end returns: nothing where the range is empty; else no entries, a range that begins below the first or has its end above theirs is refused, in this order
pub data RangeAnswer : Type 0 where
  Empty : RangeAnswer
  NotFound : RangeAnswer
  Compacted : RangeAnswer
  Found : RangeAnswer

-- the answer by the ends of the range and of the entries
abbrev pub range_answer : ℕ → ℕ → List EntryIndex → RangeAnswer
range_answer begin end es =
    if nat_le end begin then Empty else (if nat_eq (length es) 0 then NotFound else (if nat_lt begin (start_of es) then Compacted else (if nat_lt (end_of es) end then NotFound else Found)))

-- what an accepted fetch appends
abbrev pub Fetches : Option ℕ → ℕ → ℕ → List EntryIndex → List EntryIndex → List EntryIndex → RangeAnswer → Type 0
Fetches limit begin end es old new Empty = new ≡ old
Fetches limit begin end es old new Found = FetchesWithin limit (entries_between begin end es) old new
Fetches limit begin end es old new _ = ⊥

-- why a fetch is refused
abbrev pub IsFetchFault : RangeAnswer → Error → Type 0
IsFetchFault NotFound errors.EntryNotFound = Unit {0}
IsFetchFault Compacted errors.EntryCompacted = Unit {0}
IsFetchFault Found errors.Memory = Unit {0}
IsFetchFault _ _ = ⊥

-- the appended entries from the first on while their file is at or below a gate
abbrev pub appended_before : ℕ → List EntryIndex → List EntryIndex
appended_before gate es = take_while (is_placed_before gate) (placed_in Append es)

-- whether two places are the same
abbrev pub is_same_place : FileBlockHandle → FileBlockHandle → Bool
is_same_place a b = is_same a.id.queue b.id.queue && a.id.seq == b.id.seq && a.offset == b.offset && a.len == b.len

-- whether two places are the same, or both are missing
abbrev pub are_same_places : Option FileBlockHandle → Option FileBlockHandle → Bool
are_same_places None None = true
are_same_places None (Some b) = false
are_same_places (Some a) None = false
are_same_places (Some a) (Some b) = is_same_place a b

-- how many entries have another place than the entry before
abbrev pub change_count : List EntryIndex → ℕ
change_count [] = 0
change_count (a ∷ []) = 0
change_count (a ∷ b ∷ es) = (if are_same_places a.entries b.entries then 0 else 1) + change_count (b ∷ es)

-- how many blocks the entries make: as many neighbors as have one place are one
abbrev pub block_count : List EntryIndex → ℕ
block_count [] = 0
block_count (e ∷ es) = suc (change_count (e ∷ es))

-- the file number of a place, if there is one
abbrev pub place_seq : Option FileBlockHandle → Option ℕ
place_seq None = None
place_seq (Some handle) = Some handle.id.seq

-- the file number of an entry, if there is one
abbrev pub entry_seq : Option EntryIndex → Option ℕ
entry_seq None = None
entry_seq (Some e) = place_seq e.entries

-- the file number of a queue's first entry
abbrev pub first_entry_seq : LogQueue → List EntryIndex → Option ℕ
first_entry_seq queue es = entry_seq (slice_get (placed_in queue es) 0)

-- whether a number is there, and at or below a gate
abbrev pub is_some_before : ℕ → Option ℕ → Bool
is_some_before gate None = false
is_some_before gate (Some seq) = nat_le seq gate
