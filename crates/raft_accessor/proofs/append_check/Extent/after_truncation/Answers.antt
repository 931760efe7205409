use Rattle.raft_accessor.proofs.Common.{refl, sym, subst, IsExtentOf}
use Rattle.raft_accessor.proofs.AppendCheckLemmas.{truncated_none, truncated_some}
use Rattle.raft_accessor.proofs.append_check.Extent.after_truncation.Goals as goal

pub returns-then-index-self : goal.returns-then-index-self
returns-then-index-self c = λ es at. subst (IsExtentOf c.of_no_entries.result) (sym (truncated_none c.args.self c.args.index es at c.if-index-self.true)) c.of_no_entries.ensures

pub returns : goal.returns
returns c = λ es at. truncated_some c.args.self _ c.args.index es at c.if-index-self.false refl c.min.ensures
