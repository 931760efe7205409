use Rattle.raft_shared.proofs.slot.Slot.check_append_writes.Goals as goal

pub returns-clause-ok : goal.returns-clause-ok
returns-clause-ok c = rw (← c.self.view_is) c.check_append_items.ensures.ok
