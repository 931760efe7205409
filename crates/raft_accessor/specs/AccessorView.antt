-- The tables of all regions, in slots, as their contracts see them.
use Rattle.std.specs.Prelude.{◌≡◌, length}
use Rattle.raft_accessor.specs.declared.accessor.MemTableAccessor.TheInside.{Inside}
use Rattle.raft_accessor.specs.Accessor.{Accessor, AreCountsOf}
use Rattle.raft_accessor.specs.Slots.{together, AreSlots}

-- the tables of all slots
abbrev pub accessor_shown : Inside → Accessor
accessor_shown a = record { tables = together a.slots.items; cleaned = a.cleaned.items; counts = a.stats }

-- each slot has its own regions, and the counts are those of the tables
pub record IsAccessorKept (a : Inside) : Type 0 where
  pub slots : AreSlots 0 a.slots.items
  pub all : length a.slots.items ≡ 128
  pub counted : AreCountsOf (together a.slots.items) a.stats
