use Rattle.raft_accessor.proofs.Common.{refl, sym, subst, IsExtentOf}
use Rattle.raft_accessor.proofs.AppendCheckLemmas.{compacted_none, compacted_some}
use Rattle.raft_accessor.proofs.append_check.Extent.after_compaction.Goals as goal

pub returns-then-self-index : goal.returns-then-self-index
returns-then-self-index c = λ es at. subst (IsExtentOf c.of_no_entries.result) (sym (compacted_none c.args.self c.args.index es at c.if-self-index.true)) c.of_no_entries.ensures

pub returns : goal.returns
returns c = λ es at. compacted_some c.args.self _ c.args.index es at c.if-self-index.false c.max.ensures refl
