use Rattle.raft_listing.proofs.walk.visit_damage_unless_memory.Goals as goal

pub visit_unreadable-requires-clause-none : goal.visit_unreadable-requires-clause-none
visit_unreadable-requires-clause-none g c = c.requires.none c.in_default.not-Memory

pub visit_unreadable-requires-clause-other : goal.visit_unreadable-requires-clause-other
visit_unreadable-requires-clause-other g c = c.in_default.not-Memory
