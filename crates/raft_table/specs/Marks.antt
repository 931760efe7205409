-- Region marks: what steps on a region do to every older table of it, told in a few numbers and the deleted keys.
use Rattle.std.specs.Prelude.{ℕ, Bool, true, false, ◌&&◌, ◌||◌, List, [], ◌++◌, filter, nat_lt, nat_le, Option, Some, None, is_some, option_map, if◌then◌else◌}
use Rattle.raft_base.specs.declared.pipe_log.LogQueue.{LogQueue}
use Rattle.raft_base.specs.declared.pipe_log.LogQueue.TheVariants.{Append, Rewrite}
use Rattle.raft_base.specs.declared.entry_index.EntryIndex.{EntryIndex}
use Rattle.raft_base.specs.Runs.{end_of}
use Rattle.raft_table.specs.KeySets.{KeySet, without}
use Rattle.raft_table.specs.KeyValues.{Keys, pairs_over}
use Rattle.raft_table.specs.Merge.{newer_atomic_group}
use Rattle.raft_table.specs.Steps.{table_of}
use Rattle.raft_table.specs.Table.{Table}

-- what steps on a region do to every older table of it
pub record Mark : Type 0 where
  -- whether the region was cleaned
  pub cleaned : Bool
  -- the start of its first run before that, if there was one
  pub reach : Option ℕ
  -- the greatest compaction before that run
  pub reach_floor : ℕ
  -- the least truncation before that run, if there was one
  pub reach_cut : Option ℕ
  -- the steps are refused over an entry from the first of these indexes on and below the second
  pub barred : Option (ℕ × ℕ)
  -- where the older entries begin that stay
  pub floor : ℕ
  -- the index that they stay below, if a run or a truncation came
  pub cut : Option ℕ
  -- the keys that were deleted
  pub deleted : KeySet

-- whether an index is below a bound, if there is one
abbrev pub is_under : Option ℕ → ℕ → Bool
is_under None i = true
is_under (Some cut) i = nat_lt i cut

-- the entries from an index on, and below a bound, if there is one
unfoldable pub entries_within : ℕ → Option ℕ → List EntryIndex → List EntryIndex
entries_within floor cut es = filter (λ e. nat_le floor e.index && is_under cut e.index) es

-- whether the first run, if there is one, leaves a hole after entries with this end, which is 0 without entries
abbrev pub misses : Option ℕ → ℕ → Bool
misses None end = false
misses (Some start) end = nat_lt 0 end && nat_lt end start

-- whether the first run leaves a hole after the older entries that it meets
abbrev pub is_missed : Mark → List EntryIndex → Bool
is_missed m older = misses m.reach (end_of (entries_within m.reach_floor m.reach_cut older))

-- whether an older entry stands where none may
abbrev pub is_barred : Option (ℕ × ℕ) → List EntryIndex → Bool
is_barred None older = false
is_barred (Some p) older = nat_lt 0 (end_of (entries_within p.0 (Some p.1) older))

-- the older entries that stay
abbrev pub older_entries : LogQueue → Mark → List EntryIndex → List EntryIndex
older_entries Append m older = entries_within m.floor m.cut older
older_entries Rewrite m older = if is_missed m older then [] else entries_within m.floor m.cut older

-- whether the steps are refused over older entries: in the rewrite queue a hole drops those instead
abbrev pub is_refused_over : LogQueue → Mark → List EntryIndex → Bool
is_refused_over Append m older = is_missed m older || is_barred m.barred older
is_refused_over Rewrite m older = false

-- own entries over older ones; none where the steps are refused
abbrev pub entries_over : LogQueue → Mark → List EntryIndex → List EntryIndex → Option (List EntryIndex)
entries_over queue m own older = if is_refused_over queue m older then None else Some (if m.cleaned then own else older_entries queue m older ++ own)

-- own pairs over older ones
abbrev pub keys_over : Mark → Keys → Keys → Keys
keys_over m own older = if m.cleaned then own else pairs_over own (without m.deleted older)

-- the own atomic group, or the older one
abbrev pub atomic_group_over : Mark → Option (ℕ × ℕ) → Option (ℕ × ℕ) → Option (ℕ × ℕ)
atomic_group_over m own older = if m.cleaned then own else newer_atomic_group own older

-- an own table over an older one of the region; none where the steps are refused
abbrev pub table_over : LogQueue → Mark → Table → Table → Option Table
table_over queue m own older =
    option_map (λ es. record older { entries = es; keys = keys_over m own.keys older.keys; atomic_group = atomic_group_over m own.atomic_group older.atomic_group }) (entries_over queue m own.entries older.entries)

-- whether the table is there: where either is, or the own one alone where the region was cleaned
abbrev pub is_there_over : Mark → Option Table → Option Table → Bool
is_there_over m own older = if m.cleaned then is_some own else is_some own || is_some older

-- a table that isn't refused, present or absent
abbrev pub there_if : Bool → Option Table → Option (Option Table)
there_if there None = None
there_if true (Some t) = Some (Some t)
there_if false (Some t) = Some None

-- an own table over an older one, both of which may be absent
abbrev pub table_over_older : LogQueue → ℕ → Mark → Option Table → Option Table → Option (Option Table)
table_over_older queue id m own older = there_if (is_there_over m own older) (table_over queue m (table_of id own) (table_of id older))
