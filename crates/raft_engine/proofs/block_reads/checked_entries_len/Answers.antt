use Rattle.raft_engine.proofs.Common.{subst, IsEntryBlockOf}
use Rattle.raft_engine.proofs.BlockReadLemmas.{entries_first}
use Rattle.raft_engine.proofs.block_reads.checked_entries_len.Goals as goal

pub returns-clause-ok : goal.returns-clause-ok
returns-clause-ok c =
    subst (IsEntryBlockOf c.args.len c.args.block.now)
    (entries_first c.args.len c.args.block.now c.in_ok-lent_entry_block.field-0.now c.in_ok-lent_entry_block.ensures.ok)
    c.in_ok-lent_entry_block.ensures.ok
