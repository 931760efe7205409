-- What the append queue takes away of rewritten tables, told by the regions' marks there: at once, or later.
use Rattle.std.specs.Prelude.{ℕ, Bool, true, false, not, ◌||◌, ◌&&◌, ◌==◌, nat_le, nat_lt, List, [], ◌∷◌, ◌++◌, map, filter, flat_map, Option, Some, None, is_some, if◌then◌else◌}
use Rattle.std.specs.List.{list_any}
use Rattle.std.specs.FinMap as finite
use Rattle.std.specs.FinSet as finset
use Rattle.raft_base.specs.Runs.{end_of}
use Rattle.raft_base.specs.declared.entry_index.EntryIndex.{EntryIndex}
use Rattle.raft_records.specs.declared.command.Command.TheVariants as commands
use Rattle.raft_records.specs.declared.key_value.OpType.TheVariants as operations
use Rattle.raft_records.specs.Item.{Item, command_item, pair_item}
use Rattle.raft_table.specs.LastWord.{speaks_of_index}
use Rattle.raft_table.specs.Marks.{Mark, is_under}
use Rattle.raft_table.specs.Steps.{Step, Compact, Truncate, Del, Clean, table_of}
use Rattle.raft_table.specs.Table.{Table}
use Rattle.raft_history.specs.MarkedRegions.{MarkedRegions, region_in}

-- whether a step takes a pair of a table away: the deletion of a key that has one, and a Clean if there is one
abbrev pub takes_pair : Table → Step → Bool
takes_pair old (Del key) = is_some (finite.get old.keys key)
takes_pair old Clean = list_any (λ (key : List ℕ). true) (finite.keys old.keys)
takes_pair old _ = false

-- whether a step takes an entry or a pair of a table away
abbrev pub takes_of : Table → Step → Bool
takes_of old s = list_any (λ (e : EntryIndex). speaks_of_index e.index s) old.entries || takes_pair old s

-- the truncation at a cut, if there is one
abbrev pub cut_told : Option ℕ → List Step
cut_told None = []
cut_told (Some cut) = Truncate cut ∷ []

-- a region mark's Clean alone, or its greatest compaction and the truncation at its cut
abbrev pub bounds_told : Mark → List Step
bounds_told m = if m.cleaned then Clean ∷ [] else Compact m.floor ∷ cut_told m.cut

-- the keys of a table that a region mark deletes
abbrev pub keys_deleted : Mark → Table → List (List ℕ)
keys_deleted m old = filter (finset.contains m.deleted) (finite.keys old.keys)

-- what a region mark takes away of a table: its Clean or its bounds, those that take something away, and the deletion of each key that the mark deletes and the table has
abbrev pub told_by_mark : Mark → Table → List Step
told_by_mark m old = filter (takes_of old) (bounds_told m) ++ map Del (keys_deleted m old)

-- ---- at once, or later

-- the index of the first entry, if there is one
abbrev pub first_of : List EntryIndex → Option ℕ
first_of [] = None
first_of (e ∷ es) = Some e.index

-- whether appended entries that begin at this index don't join rewritten ones with this end at a cut, if there is one: they begin elsewhere, or the rewritten ones don't reach it
abbrev pub is_apart_at : Option ℕ → ℕ → ℕ → Bool
is_apart_at None first end = false
is_apart_at (Some cut) first end = not (first == cut) || nat_lt end cut

-- whether an entry stays under a region mark without a Clean
abbrev pub stays_under : Mark → EntryIndex → Bool
stays_under m e = nat_le m.floor e.index && is_under m.cut e.index

-- whether rewritten entries that stay under a region mark are dropped, since appended ones, which begin at this index, if there are some, don't join them
abbrev pub is_front_dropped : Mark → Option ℕ → Table → Bool
is_front_dropped m None old = false
is_front_dropped m (Some first) old = if m.cleaned then false else is_apart_at m.cut first (end_of old.entries) && list_any (stays_under m) old.entries

-- a compaction to the first appended entry, if that takes something away
abbrev pub front_told : Option ℕ → Table → List Step
front_told None old = []
front_told (Some first) old = filter (takes_of old) (Compact first ∷ [])

-- what is told at once of a region: where such entries are dropped, what its mark takes away, and a compaction to the first appended entry; else nothing
abbrev pub steps_at_once : Mark → Option ℕ → Table → List Step
steps_at_once m first old = if is_front_dropped m first old then told_by_mark m old ++ front_told first old else []

-- what may be told later: where no such entries are dropped, what its mark takes away
abbrev pub steps_later : Mark → Option ℕ → Table → List Step
steps_later m first old = if is_front_dropped m first old then [] else told_by_mark m old

-- ---- as items

-- what tells a step: a command as it is, and the deletion of a key; no other step
abbrev pub item_of_step : ℕ → Step → List Item
item_of_step region (Compact index) = command_item region (commands.Compact index) ∷ []
item_of_step region (Truncate index) = command_item region (commands.Truncate index) ∷ []
item_of_step region (Del key) = pair_item region operations.Del key None ∷ []
item_of_step region Clean = command_item region commands.Clean ∷ []
item_of_step region _ = []

-- what tells steps, in order
abbrev pub items_of_steps : ℕ → List Step → List Item
items_of_steps region ss = flat_map (item_of_step region) ss

-- the index of a region's first entry, if it has one
abbrev pub first_in : MarkedRegions → ℕ → Option ℕ
first_in append region = first_of (table_of region (region_in append region).table).entries

-- what tells, of one rewritten table, these steps under its region's mark
abbrev pub items_of_table : (Mark → Option ℕ → Table → List Step) → MarkedRegions → Table → List Item
items_of_table steps append t = items_of_steps t.region_id (steps (region_in append t.region_id).mark (first_in append t.region_id) t)
