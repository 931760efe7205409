-- Tables that are divided into slots: what of a batch concerns a slot, and a table that moves.
use Rattle.std.specs.Prelude.{◌≡◌, ◌≢◌, ◌⊎◌, ℕ, ◌+◌, ◌^◌, ◌≤◌, ◌==◌, List, Option, Some, None, filter}
use Rattle.std.specs.FinMap as finite
use Rattle.raft_base.specs.declared.errors.Error.{Error}
use Rattle.raft_base.specs.declared.errors.Error.TheVariants.{Full, Memory}
use Rattle.raft_base.specs.declared.pipe_log.LogQueue.{LogQueue}
use Rattle.raft_records.specs.Item.{Item}
use Rattle.raft_records.specs.LogBatch.{Batch}
use Rattle.raft_history.specs.RegionSteps.{Tables}
use Rattle.raft_table.specs.Table.{Table}
use Rattle.raft_accessor.specs.Accessor.{Accessor, AreCountsOf, live_in_all, slot_of, table_in}
use Rattle.raft_accessor.specs.AppendChecks.{AreAcceptedOncePlaced, AreRefusedOncePlaced, IsAppendCheckFault}
use Rattle.raft_accessor.specs.Writes.{Writing}
use Rattle.raft_table.specs.Table.{live_of}
use Rattle.raft_ffi.specs.Calls.{BothHold, IsCodeForBoth}
use Rattle.raft_ffi.specs.Changes.{IsStoppedAt}

-- the items whose regions are of the slot of this number, in order
abbrev pub share_of : ℕ → List Item → List Item
share_of number items = filter (λ item. slot_of item.raft_group_id == number) items

-- tables accept the items of a batch that are of a slot, once these have their places
unfoldable pub AcceptsShareOncePlaced : ℕ → Accessor → Batch → Type 0
AcceptsShareOncePlaced number a b = AreAcceptedOncePlaced a.tables (share_of number b.items)

-- nothing is written for want of memory; or the first of the items are written up to one that is refused, for this reason, and no others
abbrev pub IsShareRefused : Writing → List Item → Accessor → Accessor → Error → Type 0
IsShareRefused w share old new e = ((e ≡ Memory) × (new ≡ old)) ⊎ IsStoppedAt w share old new e

-- tables with that of a region in place of its own, if there is one
abbrev pub with_moved : ℕ → Option Table → Tables → Tables
with_moved region None tables = tables
with_moved region (Some table) tables = finite.insert tables region table

-- the table of a region that the source had stands in the others, which stay as they were else; the live counts are those of the tables
pub record IsMoved (region : ℕ) (source old new : Accessor) : Type 0 where
  pub tables : new.tables ≡ with_moved region (finite.get source.tables region) old.tables
  pub cleaned : new.cleaned ≡ old.cleaned
  pub counts : AreCountsOf new.tables new.counts

-- why a table doesn't move: want of memory, or too many records would be live in a queue
abbrev pub IsMoveFault : ℕ → Accessor → Accessor → Error → Type 0
IsMoveFault region source others e = (e ≡ Memory) ⊎ ((e ≡ Full) × ((q : LogQueue) × (2 ^ 64 ≤ live_in_all q others.tables + live_of q (table_in source.tables region))))

-- tables pass this test of a batch where the number is 0; else it is that of an error, and but for want of memory, which has the number 11, they refuse these items. Both stay
pub record IsAppendTested (code : ℕ) (Accepts : Accessor → Batch → Type 0) (items_of : Batch → List Item) (tables left : Option Accessor) (batch left_batch : Option Batch) : Type 0 where
  pub ok : code ≡ 0 → BothHold Accepts tables batch
  pub refused : code ≢ 0 → code ≢ 11 → BothHold (λ a b. AreRefusedOncePlaced a.tables (items_of b)) tables batch
  pub fault : code ≢ 0 → IsCodeForBoth (λ a b. IsAppendCheckFault a.tables (items_of b)) tables batch code
  pub same : left ≡ tables
  pub same_batch : left_batch ≡ batch
