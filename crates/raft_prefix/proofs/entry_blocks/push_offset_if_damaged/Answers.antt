use Rattle.raft_prefix.proofs.Common.{inr, sym, ◌∙◌}
use Rattle.raft_prefix.proofs.entry_blocks.push_offset_if_damaged.Goals as goal

pub returns-in_ok-push-in-Append-clause-ok : goal.returns-in_ok-push-in-Append-clause-ok
returns-in_ok-push-in-Append-clause-ok c = inr (
  λ of_rewrite. let e = sym c.in-Append.is ∙ of_rewrite in cc,
  c.has_sound_entries.ensures.unsound c.if-has_sound_entries.false,
  c.in_ok-push-in-Append.ensures.items,
)

pub returns-in-Rewrite-clause-refused : goal.returns-in-Rewrite-clause-refused
returns-in-Rewrite-clause-refused c other = (c.in-Rewrite.is, c.has_sound_entries.ensures.unsound c.if-has_sound_entries.false, c.damage_at.ensures)
