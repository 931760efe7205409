use Rattle.raft_table.proofs.Facts.{inl, [], refl, ap, blocks_shown, kept_with, kept_nil}
use Rattle.raft_table.proofs.memtable.entries.Entries.new.Goals as goal

pub invariant_of-result : goal.invariant_of-result
invariant_of-result c = (kept_with (kept_nil _ _ _ [] _ (ap blocks_shown c.new.ensures.items) refl refl refl) refl, inl c.new-2.ensures.items)
