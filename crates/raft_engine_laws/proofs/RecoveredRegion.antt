-- What a recovery gives of a kept region.
use Rattle.raft_engine_laws.proofs.Common.{◌≡◌, ℕ, List, ◌++◌, EntryIndex, overlay, Step, table_of, Table, IsRegionKept, AreMoved, unspoken}
use Rattle.raft_engine_laws.proofs.MovedLemmas.{run_seen}
use Rattle.raft_engine_laws.proofs.OverlaidLemmas.{overlaid_moved, overlaid_is}

module _ (content : EntryIndex → List ℕ) (id : ℕ) (kept untold : List Step) (rewritten t : Table) (h : IsRegionKept content id kept untold rewritten t) where
  -- the kept entries, but for places that moved
  pub recovered_entries : AreMoved content t.entries (overlay kept (table_of id h.own) rewritten).entries
  recovered_entries = overlaid_moved content kept untold (table_of id h.own).entries h.seen rewritten.entries t.entries h.over
      (run_seen content t.entries h.seen h.moved h.sound.consecutive.run) h.moved h.sound.in_front h.told h.covers h.spoken

  -- what the kept steps leave of the rewritten entries, and their own behind
  pub recovered_are : (overlay kept (table_of id h.own) rewritten).entries ≡ unspoken kept rewritten.entries ++ (table_of id h.own).entries
  recovered_are = overlaid_is content kept untold (table_of id h.own).entries h.seen rewritten.entries t.entries h.over (run_seen content t.entries h.seen h.moved h.sound.consecutive.run) h.moved h.sound.in_front h.told h.covers h.spoken
