use Rattle.raft_history.proofs.ContextLaws.{regions_stand, regions_exact, regions_unsound, files_unsound}
use Rattle.raft_history.proofs.MergeLaws.{rewrite_refused}
use Rattle.raft_history.proofs.contexts.regions_merge_one_by_one.Goals as goal

pub returns : goal.returns
returns c = record {
  stands = λ q c d h k rs s t a b. regions_stand q c d h k rs (record { older_suits = s; newer_suits = t; older = a; newer = b });
  exact = λ q c d h k rs s t a b p. regions_exact q c d h k rs (record { older_suits = s; newer_suits = t; older = a.stands; newer = b.stands }) a b p.each;
  refused = λ q c d h k s t a b. regions_unsound q c d h k (record { older_suits = s; newer_suits = t; older = a; newer = b });
  files = λ q c d h k s t a b. files_unsound q c d h k (record { older_suits = s; newer_suits = t; older = a; newer = b });
  rewrite = rewrite_refused;
}
