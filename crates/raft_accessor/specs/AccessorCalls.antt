-- What the calls of an accessor do.
use Rattle.std.specs.Prelude.{◌≡◌, ◌⊎◌, ℕ, [], ◌∷◌, Option, Some, Result, Ok, Err, IfErr, IfSome}
use Rattle.std.specs.FinMap as finite
use Rattle.std.specs.Result.{OnOk, OnErr}
use Rattle.raft_base.specs.declared.errors.Error.{Error}
use Rattle.raft_base.specs.declared.errors.Error.TheVariants.{Memory}
use Rattle.raft_records.specs.Item.{Item}
use Rattle.raft_table.specs.Table.{Table, with_table_deleted}
use Rattle.raft_accessor.specs.Accessor.{Accessor, table_in, live_in_all}
use Rattle.raft_accessor.specs.Writes.{Writing, queue_of, AreWritten, IsWriteFault}

-- a region's table becomes the outcome of a change, if there is one, and all others stay; where the change is refused all tables and counts stay, for this fault or for want of memory
pub record IsTableChanged {R : Type 0} (outcome : Option Table) (IsFault : Error → Type 0) (id : ℕ) (r : Result R Error) (old new : Accessor) : Type 0 where
  pub ok : OnOk r (outcome ≡ Some (table_in new.tables id))
  pub others : OnOk r (new.tables ≡ finite.insert old.tables id (table_in new.tables id))
  pub err : OnErr r (new.tables ≡ old.tables)
  pub counts_err : OnErr r (new.counts ≡ old.counts)
  pub fault : IfErr r (λ e. (e ≡ Memory) ⊎ IsFault e)
  pub cleaned : new.cleaned ≡ old.cleaned

-- a region has the table that it had, or an empty one in its place; where there is no memory for that, all tables stay, and the counts stay in any case
pub record IsTableMade {R E : Type 0} (id : ℕ) (r : Result R E) (old new : Accessor) : Type 0 where
  pub ok : OnOk r (new.tables ≡ finite.insert old.tables id (table_in old.tables id))
  pub err : OnErr r (new.tables ≡ old.tables)
  pub counts : new.counts ≡ old.counts
  pub cleaned : new.cleaned ≡ old.cleaned

-- an item is written, or refused for this fault, and then tables, counts and list stay
pub record IsWritten (w : Writing) (item : Item) (r : Result Unit Error) (old new : Accessor) : Type 0 where
  pub ok : OnOk r (AreWritten w (item ∷ []) old new)
  pub err : OnErr r (new.tables ≡ old.tables)
  pub counts_err : OnErr r (new.counts ≡ old.counts)
  pub cleaned : OnErr r (new.cleaned ≡ old.cleaned)
  pub fault : IfErr r (IsWriteFault w item.raft_group_id (finite.get old.tables item.raft_group_id) (live_in_all (queue_of w) old.tables) item.content)

-- what was lent, or want of memory as an error of this crate
abbrev pub lent_as : {X E : Type 0} → Result X E → Result X Error
lent_as (Ok x) = Ok x
lent_as (Err e) = Err Memory

-- a region's table, if there is one, is taken away, handed out, and no longer counted
pub record IsTableTaken (id : ℕ) (table : Option Table) (old new : Accessor) : Type 0 where
  pub tables : new.tables ≡ finite.remove old.tables id
  pub removed : table ≡ finite.get old.tables id
  pub own : IfSome table (λ (t : Table). t.region_id ≡ id)
  pub counts : new.counts ≡ with_table_deleted (table_in old.tables id) old.counts
  pub cleaned : new.cleaned ≡ old.cleaned
