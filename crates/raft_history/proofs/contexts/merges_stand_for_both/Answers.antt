use Rattle.raft_history.proofs.Common.{Rewrite, StandsFor, IsExactFor, ◌++◌, inl, inr, subst, sym, ◌∙◌, false≢true}
use Rattle.raft_history.proofs.ContextLaws.{regions_stand, regions_exact, regions_unsound, files_unsound}
use Rattle.raft_history.proofs.JoinLemmas.{fold_is, fold_refused}
use Rattle.raft_history.proofs.MergeLaws.{rewrite_refused}
use Rattle.raft_history.proofs.contexts.merges_stand_for_both.Goals as goal

pub returns : goal.returns
returns c = record {
  stands = λ q c d e h k s t a b is.
      let m = (fold_is q c d e).0 is in
      subst (λ e. StandsFor e (h ++ k)) (sym m.2) (regions_stand q c d h k e.regions (record { older_suits = s; newer_suits = t; older = a; newer = b }) m.0 m.1);
  exact = λ q c d e h k s t a b p is.
      let m = (fold_is q c d e).0 is in
      subst (λ e. IsExactFor e (h ++ k)) (sym m.2) (regions_exact q c d h k e.regions (record { older_suits = s; newer_suits = t; older = a.stands; newer = b.stands }) a b p.each m.0 m.1);
  refused = λ q c d h k s t a b is sound. elim ((fold_refused q c d).0 is) [
    | inl f ↦ files_unsound q c d h k (record { older_suits = s; newer_suits = t; older = a; newer = b }) f sound
    | inr r ↦ regions_unsound q c d h k (record { older_suits = s; newer_suits = t; older = a; newer = b }) r sound
  ];
  rewrite = λ c d f is. elim ((fold_refused Rewrite c d).0 is) [
    | inl g ↦ false≢true (sym g ∙ f)
    | inr r ↦ rewrite_refused c d r
  ];
}
