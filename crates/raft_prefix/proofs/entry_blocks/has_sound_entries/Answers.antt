use Rattle.raft_prefix.proofs.Common.{subst, HasNoFront, IsHeader}
use Rattle.raft_prefix.proofs.BlockLemmas.{block_sound, block_unsound, has_header, not_read, read_ok}
use Rattle.raft_prefix.proofs.entry_blocks.has_sound_entries.Goals as goal

pub returns-in_default-clause-unsound : goal.returns-in_default-clause-unsound
returns-in_default-clause-unsound c bad part at next items same b = absurd (has_header part at next items b (subst (HasNoFront IsHeader) same c.in_default.ensures.refused))

pub returns-clause-sound : goal.returns-clause-sound
returns-clause-sound c good part at next items same b =
    let read = read_ok _ (Unit {0}) c.lent_entry_block.result c.is_ok.result c.is_ok.ensures.value good c.lent_entry_block.ensures.ok in
    block_sound part at next items b c.args.bytes.now same c.in-Ok.ensures.ok read.0.now read.1

pub returns-clause-unsound : goal.returns-clause-unsound
returns-clause-unsound c bad part at next items same b =
    block_unsound part at next items b c.args.bytes.now same c.in-Ok.ensures.ok (not_read (λ _. Unit {0}) _ c.lent_entry_block.result c.is_ok.result c.is_ok.ensures.value bad c.lent_entry_block.ensures.refused)
