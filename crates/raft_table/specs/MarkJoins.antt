-- How region marks are reckoned: the region mark and the own table of one step, and the region mark of two neighbors. That they stand for the steps is a law.
use Rattle.std.specs.Prelude.{ℕ, max, min, Bool, true, false, not, ◌&&◌, ◌||◌, [], ◌∷◌, Option, Some, None, is_some, nat_lt, ◌==◌, if◌then◌else◌}
use Rattle.std.specs.Option.{option_or}
use Rattle.std.specs.FinSet as finset
use Rattle.raft_base.specs.declared.pipe_log.LogQueue.{LogQueue}
use Rattle.raft_base.specs.declared.pipe_log.LogQueue.TheVariants.{Append, Rewrite}
use Rattle.raft_base.specs.Runs.{end_of}
use Rattle.raft_table.specs.KeySets.{KeySet}
use Rattle.raft_table.specs.KeyValues.{lesser}
use Rattle.raft_table.specs.Marks.{Mark, entries_within, misses}
use Rattle.raft_table.specs.Steps.{Step, Run, Compact, Truncate, Put, Del, AtomicGroup, Clean, table_of}
use Rattle.raft_table.specs.Table.{Table, empty_table, with_pair}

-- the keys that two neighbors delete
abbrev pub joined_deleted : Mark → Mark → KeySet
joined_deleted m n = if n.cleaned then n.deleted else finset.union m.deleted n.deleted

-- at most c, and the bound where there is a lesser one
abbrev pub at_most_bound : ℕ → Option ℕ → ℕ
at_most_bound c None = c
at_most_bound c (Some d) = min c d

-- barred indexes among the older entries that an older region mark leaves
abbrev pub narrowed_bars : ℕ → Option ℕ → Option (ℕ × ℕ) → Option (ℕ × ℕ)
narrowed_bars floor cut None = None
narrowed_bars floor cut (Some p) = Some (max floor p.0, at_most_bound p.1 cut)

-- the region marks of two neighbors joined, where the older one has no run
abbrev pub joined_first : Mark → Mark → Mark
joined_first m n = record {
  cleaned = n.cleaned;
  reach = n.reach;
  reach_floor = if is_some n.reach then max m.floor n.reach_floor else m.reach_floor;
  reach_cut = if is_some n.reach then lesser m.cut n.reach_cut else m.reach_cut;
  barred = option_or m.barred (narrowed_bars m.floor m.cut n.barred);
  floor = max m.floor n.floor;
  cut = lesser m.cut n.cut;
  deleted = joined_deleted m n;
}

-- whether the newer first run meets no own entry of the older table, and starts above the bound below which still older ones stay
abbrev pub is_detached : Option ℕ → ℕ → ℕ → Bool
is_detached None x bound = false
is_detached (Some start) x bound = x == 0 && nat_lt bound start

-- the indexes that are barred: those of the older region mark, else those that a newer first run which is detached would meet, else the newer region mark's
abbrev pub joined_barred : LogQueue → Bool → Option (ℕ × ℕ) → ℕ × ℕ → Option (ℕ × ℕ) → Option (ℕ × ℕ)
joined_barred Append detached older met newer = option_or older (if detached then Some met else newer)
joined_barred Rewrite detached older met newer = older

-- where the older entries begin that stay: in the rewrite queue a newer first run that is detached or leaves a hole drops all below the cut
abbrev pub joined_floor : LogQueue → Bool → ℕ → ℕ → ℕ
joined_floor Append dropped floor cut = floor
joined_floor Rewrite dropped floor cut = if dropped then max floor cut else floor

-- the region marks of two neighbors joined, where the older one has a run and the cut c, and the entries that the newer first run meets end at x
abbrev pub joined_later : LogQueue → ℕ → ℕ → Mark → Mark → Mark
joined_later queue c x m n = record {
  cleaned = n.cleaned;
  reach = m.reach;
  reach_floor = m.reach_floor;
  reach_cut = m.reach_cut;
  barred = joined_barred queue (is_detached n.reach x (at_most_bound c n.reach_cut)) m.barred (max m.floor n.reach_floor, at_most_bound c n.reach_cut) (narrowed_bars m.floor (Some c) n.barred);
  floor = joined_floor queue (is_detached n.reach x (at_most_bound c n.reach_cut) || misses n.reach x) (max m.floor n.floor) c;
  cut = lesser (Some c) n.cut;
  deleted = joined_deleted m n;
}

-- the region marks of two neighbors joined, told by the first run and the cut of the older one, where its region wasn't cleaned
abbrev pub joined_uncleaned : Option ℕ → Option ℕ → LogQueue → ℕ → Mark → Mark → Mark
joined_uncleaned None cut queue x m n = joined_first m n
joined_uncleaned (Some reach) None queue x m n = m
joined_uncleaned (Some reach) (Some cut) queue x m n = joined_later queue cut x m n

-- the region marks of two neighbors joined: the older m, and the newer n, whose first run meets entries of the older table that end at x
abbrev pub joined_at : LogQueue → ℕ → Mark → Mark → Mark
joined_at queue x m n = if m.cleaned then m else joined_uncleaned m.reach m.cut queue x m n

-- the end of the older entries from the newer region mark's reach floor on and below its reach cut: those that its first run meets, if it has one
abbrev pub end_at_reach : Mark → Table → ℕ
end_at_reach n older = end_of (entries_within n.reach_floor n.reach_cut older.entries)

-- the region marks of two neighbors joined: the older m with its own table, and the newer n
abbrev pub joined_mark : LogQueue → ℕ → Mark → Option Table → Mark → Mark
joined_mark queue id m own n = joined_at queue (end_at_reach n (table_of id own)) m n

-- whether newer steps leave a region mark as it is: the region was cleaned (or no steps give such a region mark)
abbrev pub is_settled : Mark → Bool
is_settled m = m.cleaned || is_some m.reach && not (is_some m.cut)

-- the region mark of no step
abbrev pub fresh : Mark
fresh = record { cleaned = false; reach = None; reach_floor = 0; reach_cut = None; barred = None; floor = 0; cut = None; deleted = finset.empty }

-- the region mark of one step
abbrev pub mark_of : Step → Mark
mark_of (Run []) = fresh
mark_of (Run (e ∷ run)) = record fresh { reach = Some e.index; cut = Some e.index }
mark_of (Compact i) = record fresh { floor = i }
mark_of (Truncate i) = record fresh { cut = Some i }
mark_of (Del key) = record fresh { deleted = finset.insert finset.empty key }
mark_of Clean = record fresh { cleaned = true }
mark_of _ = fresh

-- the own table of one step
abbrev pub own_of : ℕ → Step → Option Table
own_of id (Run run) = Some (record (empty_table id) { entries = run })
own_of id (Put key value file) = Some (with_pair (empty_table id) key value file)
own_of id (AtomicGroup first_seq last_seq) =
    Some (record (empty_table id) { atomic_group = Some (first_seq, last_seq) })
own_of id Clean = None
own_of id _ = Some (empty_table id)
