use Rattle.raft_ffi.proofs.reader_calls.raft_ffi_damaged_entries.Goals as goal

pub returns-clause-refused : goal.returns-clause-refused
returns-clause-refused c =
    let reason = rw (c.to_context.ensures) at c.damage_at.ensures in
    record { error = c.damage_at.result; reason = reason; code = c.status_of.ensures.err; text = c.status_of.ensures.told }
