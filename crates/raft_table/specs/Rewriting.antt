-- Rewriting: which places of a table move to the rewrite queue, or within it.
use Rattle.std.specs.Prelude.{◌≡◌, ◌⊎◌, ℕ, ◌+◌, ◌-◌, ◌≤◌, ◌^◌, Bool, false, ◌&&◌, ◌||◌, List, [], ◌∷◌, ◌++◌, length, take, map, nat_lt, nat_le, All, Contains, Option, Some, None, is_some, if◌then◌else◌}
use Rattle.std.specs.List.{prefix_len}
use Rattle.raft_base.specs.declared.errors.Error.{Error}
use Rattle.raft_base.specs.declared.errors.Error.TheVariants as errors
use Rattle.raft_base.specs.declared.pipe_log.FileBlockHandle.{FileBlockHandle}
use Rattle.raft_base.specs.declared.pipe_log.LogQueue.TheVariants.{Append, Rewrite}
use Rattle.raft_base.specs.declared.entry_index.EntryIndex.{EntryIndex}
use Rattle.raft_base.specs.Runs.{end_of}
use Rattle.raft_table.specs.Counts.{Counts, live, with_added, with_deleted}
use Rattle.raft_table.specs.TableEntries.{start_of, below, from, is_placed_in, entry_count}

-- whether there is a place, in a file numbered at or below a gate
abbrev pub is_place_before : ℕ → Option FileBlockHandle → Bool
is_place_before gate None = false
is_place_before gate (Some handle) = nat_le handle.id.seq gate

-- whether an entry's place is in a file numbered at or below a gate
unfoldable pub is_placed_before : ℕ → EntryIndex → Bool
is_placed_before gate e = is_place_before gate e.entries

-- which places move: with a gate those in files at or below it, without one those that are rewritten already
abbrev pub may_move : Option ℕ → EntryIndex → Bool
may_move (Some gate) e = is_placed_before gate e
may_move None e = is_placed_in Rewrite e

-- the entries at the indexes that a run spans
abbrev pub overlap : List EntryIndex → List EntryIndex → List EntryIndex
overlap run es = from (start_of run) (below (end_of run) es)

-- how many places move: the longest front of the overlap whose entries may
abbrev pub moved_count : Option ℕ → List EntryIndex → List EntryIndex → ℕ
moved_count gate run es = prefix_len (may_move gate) (overlap run es)

-- refused with more entries below the run than are rewritten, and with a gate also with fewer
abbrev pub is_misplaced : Option ℕ → ℕ → ℕ → Bool
is_misplaced gate below_run rewritten = nat_lt rewritten below_run || (is_some gate && nat_lt below_run rewritten)

-- the entries with n of them, from an index on, at the places of the run
abbrev pub with_places : List EntryIndex → ℕ → ℕ → List EntryIndex → List EntryIndex
with_places run i n es = below i es ++ take n (from i run) ++ from (i + n) es

-- the entries after a rewriting that shares indexes with those given last; none where it is refused
abbrev pub rewritten_from : Option ℕ → List EntryIndex → List EntryIndex → List EntryIndex → Option (List EntryIndex)
rewritten_from gate run es [] = Some es
rewritten_from gate run es (e ∷ met) = if is_misplaced gate (length (below e.index es)) (entry_count Rewrite es) then None else Some (with_places run e.index (moved_count gate run es) es)

-- the entries after a rewriting to the places of a run of the rewrite queue; none where it is refused
abbrev pub entries_after_rewrite : Option ℕ → List EntryIndex → List EntryIndex → Option (List EntryIndex)
entries_after_rewrite gate run es = rewritten_from gate run es (overlap run es)

-- the counts after a rewriting by n entries that moved m places: n more are written; with a gate m appended ones are gone and the others of the n deleted again, without one all n
abbrev pub with_rewritten : Option ℕ → ℕ → ℕ → Counts → Counts
with_rewritten (Some gate) n m counts = with_deleted Rewrite (n - m) (with_deleted Append m (with_added Rewrite n counts))
with_rewritten None n m counts = with_deleted Rewrite n (with_added Rewrite n counts)

-- how many join the rewritten entries: those that move past a gate
abbrev pub newly_rewritten : Option ℕ → ℕ → ℕ
newly_rewritten (Some gate) m = m
newly_rewritten None m = 0

-- the counts after a rewriting to the places of a run; one without entries changes nothing
abbrev pub counts_after_rewrite : Option ℕ → List EntryIndex → List EntryIndex → Counts → Counts
counts_after_rewrite gate [] es counts = counts
counts_after_rewrite gate (e ∷ run) es counts = with_rewritten gate (length (e ∷ run)) (moved_count gate (e ∷ run) es) counts

-- why a rewriting by n entries with this outcome is refused: as misplaced, since the live count with all of them would pass 2^64 - 1, or for want of memory
abbrev pub IsRewriteFault : ℕ → Counts → Option (List EntryIndex) → Error → Type 0
IsRewriteFault n counts None (errors.Corruption text) = Unit {0}
IsRewriteFault n counts None errors.Memory = Unit {0}
IsRewriteFault n counts (Some after) errors.Full = 2 ^ 64 ≤ live Rewrite counts + n
IsRewriteFault n counts (Some after) errors.Memory = Unit {0}
IsRewriteFault n counts outcome _ = ⊥

-- the indexes of entries, in order
abbrev pub indexes_of : List EntryIndex → List ℕ
indexes_of es = map (λ e. e.index) es

-- a rewriting to the places of a run changes places alone: the indexes are the same, and each entry is an old one or one of the run
pub record MovesPlacesAlone (run before after : List EntryIndex) : Type 0 where
  pub indexes : indexes_of after ≡ indexes_of before
  pub entries : All (λ e. Contains before e ⊎ Contains run e) after
