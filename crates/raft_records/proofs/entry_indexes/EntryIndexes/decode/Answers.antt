use Rattle.raft_records.proofs.ReadBatchLemmas.{entries_kept}
use Rattle.raft_records.proofs.entry_indexes.EntryIndexes.decode.Goals as goal

pub returns-clause-ok : goal.returns-clause-ok
returns-clause-ok c =
    let r = c.in_ok-end.ensures.ok in
    rw (entries_kept r c.new-entries.ensures.items) r.reads

pub returns-clause-size : goal.returns-clause-size
returns-clause-size c =
    let r = c.in_ok-end.ensures.ok in
    rw (entries_kept r c.new-entries.ensures.items) r.ends
