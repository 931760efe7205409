-- A kept region: its steps in the append files that are left, what the rewrite queue hasn't been told of them, its tables, and how they stand to one another.
use Rattle.std.specs.Prelude.{◌≡◌, ℕ, true, List, [], Option, Some, None}
use Rattle.std.specs.FinMap as finite
use Rattle.raft_base.specs.declared.entry_index.EntryIndex.{EntryIndex}
use Rattle.raft_base.specs.declared.pipe_log.LogQueue.TheVariants.{Append, Rewrite}
use Rattle.raft_table.specs.KeyValues.{Stored}
use Rattle.raft_table.specs.LastWord.{last_pair}
use Rattle.raft_table.specs.Steps.{Step, AreSteps, table_of, after}
use Rattle.raft_table.specs.Table.{Table}
use Rattle.raft_table.specs.TableEntries.{placed_in, AreTableEntries}
use Rattle.raft_contexts.specs.MovedPlaces.{IsMovedPair}
use Rattle.raft_engine_laws.specs.MovedRecords.{AreMoved}
use Rattle.raft_engine_laws.specs.Speaking.{unspoken, IsOver, AreCovered, is_key_spoken, is_key_dropped, pair_left}

-- a region's table `t` is kept: `kept` are its steps in the append files that are left, `untold` those of them that the rewrite queue hasn't been told, `rewritten` is what the rewrite files alone give
pub record IsRegionKept (content : EntryIndex → List ℕ) (id : ℕ) (kept untold : List Step) (rewritten t : Table) : Type 0 where
  pub steps : AreSteps kept
  -- the table's entries are a run, the rewritten in front
  pub sound : AreTableEntries t.entries
  -- the append files can be read alone
  pub own : Option Table
  pub read : after Append id None kept ≡ Some own
  -- the table's entries are, but for places that moved, what the kept steps leave of some entries, and behind it their own
  pub seen : List EntryIndex
  pub over : IsOver kept (table_of id own).entries seen
  pub moved : AreMoved content t.entries seen
  -- once it is told, the rewrite queue has exactly the table's entries that have their places there
  pub told : unspoken untold rewritten.entries ≡ placed_in Rewrite t.entries
  -- what untold steps speak of, kept ones speak of
  pub covers : AreCovered untold kept
  -- kept steps speak of each of the table's entries that has its place in the append queue
  pub spoken : unspoken kept (placed_in Append t.entries) ≡ []
  -- where kept steps speak of a key, their last word stands, but for a file that moved
  pub pair_moved : (key : List ℕ) → is_key_spoken kept key ≡ true → IsMovedPair (finite.get t.keys key) (last_pair key kept)
  -- once it is told, the rewrite queue has each of the table's pairs whose file is there, and none of a key that the table doesn't have
  pub pair_told : (key : List ℕ) (s : Stored) → finite.get t.keys key ≡ Some s → s.file.queue ≡ Rewrite → pair_left untold key (finite.get rewritten.keys key) ≡ Some s
  pub pair_gone : (key : List ℕ) → finite.get t.keys key ≡ None → pair_left untold key (finite.get rewritten.keys key) ≡ None
  -- each key that untold steps take away, kept ones take away
  pub pair_covers : (key : List ℕ) → is_key_dropped untold key ≡ true → is_key_dropped kept key ≡ true
  -- kept steps speak of the key of each of the table's pairs whose file is in the append queue
  pub pair_spoken : (key : List ℕ) (s : Stored) → finite.get t.keys key ≡ Some s → s.file.queue ≡ Append → is_key_spoken kept key ≡ true
