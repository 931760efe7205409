use Rattle.raft_table.proofs.Facts.{inl, [], refl, ap, blocks_shown, kept_with, kept_nil}
use Rattle.raft_table.proofs.memtable.entries.Entries.clear.Goals as goal

pub invariant_of-self : goal.invariant_of-self
invariant_of-self c = (kept_with (kept_nil _ _ _ [] _ (ap blocks_shown c.clear.ensures.items) refl refl refl) refl, inl c.clear-2.ensures.items)
