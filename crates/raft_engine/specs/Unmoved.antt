-- Why there is no batch of a region's records that are to move to the rewrite queue.
use Rattle.std.specs.Prelude.{◌≡◌, ◌⊎◌, ℕ, ◌^◌, ◌≤◌, List, length, Option}
use Rattle.std.specs.List.{concat}
use Rattle.raft_base.specs.declared.entry_index.EntryIndex.{EntryIndex}
use Rattle.raft_base.specs.declared.errors.Error.{Error}
use Rattle.raft_base.specs.declared.errors.Error.TheVariants as errors
use Rattle.raft_table.specs.Table.{Table}
use Rattle.raft_files.specs.Asks.{Ask}
use Rattle.raft_engine_laws.specs.Moving.{AreOrdinary}
use Rattle.raft_engine.specs.Reads.{AreReadByBlocks, AreUnread}
use Rattle.raft_engine.specs.Rewriting.{IsNextPart, moving_entries, moving_pairs, pairs_with}
use Rattle.raft_engine.specs.FileFailures.{Failures}

-- one of these keys is that of the group markers
abbrev pub AreKeysRefused : List (List ℕ × List ℕ) → Error → Type 0
AreKeysRefused pairs (errors.InvalidArgument text) = AreOrdinary pairs → ⊥
AreKeysRefused pairs _ = ⊥

-- these byte strings of entries have 2^31 bytes or more together, or one of these keys is that of the group markers
abbrev pub AreRecordsRefused : List (List ℕ) → List (List ℕ × List ℕ) → Error → Type 0
AreRecordsRefused strings pairs e = ((e ≡ errors.Full) × (2 ^ 31 ≤ length (concat strings))) ⊎ AreKeysRefused pairs e

-- why there is no batch of the next ones of what of a table moves past a gate, or without one, if there is memory: the entries
-- aren't all read; or they are, and they or the keys are refused
pub record IsBatchRefused (MayFail : Failures) (gate : Option ℕ) (left : List EntryIndex) (t : Table) (old new : List Ask) (e : Error) : Type 0 where
  pub part : List EntryIndex
  pub next : IsNextPart gate (moving_entries gate t.entries) part left
  pub why : AreUnread MayFail t.region_id part old new e
      ⊎ ((strings : List (List ℕ)) × AreReadByBlocks part strings old new × AreRecordsRefused strings (pairs_with left (moving_pairs gate t.keys)) e)
