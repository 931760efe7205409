-- Where a run that starts at an index meets the entries.
use Rattle.std.specs.Prelude.{◌≡◌, ◌⊎◌, ℕ, ◌≤◌, true, false, List, [], length, take}
use Rattle.raft_base.specs.declared.pipe_log.LogQueue.{LogQueue}
use Rattle.raft_base.specs.declared.pipe_log.LogQueue.TheVariants.{Rewrite}
use Rattle.raft_base.specs.declared.entry_index.EntryIndex.{EntryIndex}
use Rattle.raft_table.specs.declared.memtable.entries.Start.{Start}
use Rattle.raft_table.specs.declared.memtable.entries.Start.TheVariants as starts
use Rattle.raft_table.specs.TableEntries.{below}
use Rattle.raft_table.specs.Start.{leaves_hole, starts_in_front}

-- a start that joins the entries, and how many stand below it; one in front of all; one after a hole
abbrev pub IsStart : List EntryIndex → ℕ → Start → Type 0
IsStart es i (starts.Joins n) =
    (below i es ≡ take n es) × (n ≤ length es) × (leaves_hole es i ≡ false) × (starts_in_front es i ≡ false)
IsStart es i starts.InFront =
    (below i es ≡ []) × (leaves_hole es i ≡ false) × (starts_in_front es i ≡ true)
IsStart es i starts.BehindHole = (leaves_hole es i ≡ true) × (starts_in_front es i ≡ false)

-- how many entries stay under a run from an index on that is read again: those below it; none where it starts in front of all, or in the rewrite queue after a hole
abbrev pub IsKeptUnder : LogQueue → List EntryIndex → ℕ → ℕ → Type 0
IsKeptUnder queue es i n = IsStart es i (starts.Joins n) ⊎ ((n ≡ 0) × IsStart es i starts.InFront) ⊎ ((n ≡ 0) × (queue ≡ Rewrite) × IsStart es i starts.BehindHole)
