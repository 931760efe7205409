use Rattle.std.proofs.Common.{ap, sym, ◌∙◌}
use Rattle.std.specs.Prelude.{nat_lt}
use Rattle.raft_contexts.proofs.TakenAwayLemmas.{takes_compaction}
use Rattle.raft_contexts.proofs.taken_away.has_entry_below.Goals as goal

pub returns-in-Some : goal.returns-in-Some
returns-in-Some c = ap (λ n. nat_lt n c.args.index) c.in-Some.ensures.1 ∙ sym (takes_compaction c.args.table.now c.args.index c.holds_one_run.ensures.consecutive.run c.in-Some.ensures.0)
