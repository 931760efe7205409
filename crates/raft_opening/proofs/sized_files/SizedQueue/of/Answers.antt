use Rattle.raft_opening.proofs.Common.{List, inl, subst, FileSize, err_from_is_err_and, AreKnownOf}
use Rattle.raft_opening.proofs.SizedLemmas.{apart_sized, consecutive_sized, known_left, left_sized}
use Rattle.raft_opening.proofs.sized_files.SizedQueue.of.Goals as goal

pub returns-in_err-check_sizes-clause-fault : goal.returns-in_err-check_sizes-clause-fault
returns-in_err-check_sizes-clause-fault g c = λ files sized.
    let p = err_from_is_err_and c.from_residual.result c.from_residual.ensures.1 in
    rw (p.1, p.2) (λ other. inl (inl (apart_sized (g.S.ReadFiles.gives c.args.source.now) c.args.queue c.args.version c.args.sizes.now files sized _ (c.in_err-check_sizes.ensures.refused other))))

pub returns-in_err-missing-clause-fault : goal.returns-in_err-missing-clause-fault
returns-in_err-missing-clause-fault g c = λ files sized.
    let p = err_from_is_err_and c.from_residual-in_err-missing.result c.from_residual-in_err-missing.ensures.1 in
    rw (p.1, p.2) (c.in_err-missing.ensures.fault files sized)

pub returns-clause-ok : goal.returns-clause-ok
returns-clause-ok g c = λ files sized.
    let m = c.in_ok-missing.ensures.ok files sized (consecutive_sized (g.S.ReadFiles.gives c.args.source.now) c.args.queue c.args.version c.args.sizes.now files sized c.in_ok-check_sizes.ensures.ok) in
    let left = left_sized c.args.mode c.args.queue c.args.version files c.in_ok-missing.missing m c.args.sizes.now c.in_ok-left.left.items sized.are c.in_ok-left.ensures.ok in
    record {
      missing = m;
      known = known_left c.args.mode c.args.queue c.args.version files c.in_ok-missing.missing m c.in_ok-left.left.items c.in_ok-known.known left (subst (λ (ss : List FileSize). AreKnownOf ss c.in_ok-known.known) c.as_slice.ensures.value c.in_ok-known.ensures.ok);
      left = left;
    }
