use Rattle.std.proofs.Common.{ap, sym, ◌∙◌}
use Rattle.std.specs.Prelude.{nat_lt}
use Rattle.raft_contexts.proofs.TakenAwayLemmas.{takes_truncation}
use Rattle.raft_contexts.proofs.taken_away.has_entry_from.Goals as goal

pub returns : goal.returns
returns c = ap (nat_lt c.args.index) c.end.ensures ∙ sym (takes_truncation c.args.table.now c.args.index)
