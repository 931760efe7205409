use Rattle.std.proofs.Common.{◌∙◌, List, inl, subst}
use Rattle.std.proofs.lemmas.Result.{err_from_is_err_and}
use Rattle.raft_reading.specs.declared.queue_files.FileSize.{FileSize}
use Rattle.raft_opening.specs.SizedFiles.{AreKnownOf}
use Rattle.raft_opening.proofs.SizedLemmas.{known_left, left_sized}
use Rattle.raft_ffi.proofs.ReadLemmas.{apart_read, consecutive_read}
use Rattle.raft_ffi.proofs.read_queue.sized_queue.Goals as goal

pub returns-in_err-check_sizes-clause-fault : goal.returns-in_err-check_sizes-clause-fault
returns-in_err-check_sizes-clause-fault c = λ files read q.
    let are = c.as_slice-files.ensures.value ∙ c.in_ok-found.ensures.ok ∙ q.sizes_are in
    let p = err_from_is_err_and c.from_residual-in_err-check_sizes.result c.from_residual-in_err-check_sizes.ensures.1 in
    rw (p.1, p.2) (λ other. inl (inl (apart_read c.args.queue _ files are _ (c.in_err-check_sizes.ensures.refused other))))

pub returns-in_err-missing-clause-fault : goal.returns-in_err-missing-clause-fault
returns-in_err-missing-clause-fault c = λ files read q.
    let are = c.as_slice-files.ensures.value ∙ c.in_ok-found.ensures.ok ∙ q.sizes_are in
    let p = err_from_is_err_and c.from_residual-in_err-missing.result c.from_residual-in_err-missing.ensures.1 in
    rw (p.1, p.2) (c.in_err-missing.ensures.fault files read are q.up_to)

pub returns-clause-ok : goal.returns-clause-ok
returns-clause-ok c = λ files read q.
    let are = c.as_slice-files.ensures.value ∙ c.in_ok-found.ensures.ok ∙ q.sizes_are in
    let m = c.in_ok-missing.ensures.ok files read are q.up_to (consecutive_read _ files are c.in_ok-check_sizes.ensures.ok) in
    let left = left_sized c.args.mode c.args.queue c.args.version files c.in_ok-missing.missing m.missing_of _ c.in_ok-left.left.items are c.in_ok-left.ensures.ok in
    record {
      sized_of = record {
        missing = m.missing_of;
        known = known_left c.args.mode c.args.queue c.args.version files c.in_ok-missing.missing m.missing_of c.in_ok-left.left.items c.in_ok-known.known left
            (subst (λ (ss : List FileSize). AreKnownOf ss c.in_ok-known.known) c.as_slice.ensures.value c.in_ok-known.ensures.ok);
        left = left;
      };
      standing = m.standing;
    }
