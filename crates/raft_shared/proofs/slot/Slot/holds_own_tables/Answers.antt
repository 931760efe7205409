use Rattle.raft_shared.proofs.slot.Slot.holds_own_tables.Goals as goal

pub returns : goal.returns
returns c = rw (← c.self.view_is) (record {
  tables = λ id t e. record { own = c.tables_are_own.ensures id t e; slot = c.self.invariant.regions id t e };
  counted = c.self.invariant.counted;
  cleaned = c.self.invariant.cleaned;
})
