use Rattle.raft_files.proofs.Common.{◌≡◌, ◌-◌, ◌<◌, ◌++◌, length, arith, refl, vec_len}
use Rattle.raft_files.proofs.LastLemmas.{changed, unchanged, on_err}
use Rattle.raft_files.proofs.memory_files.append_bytes.Goals as goal

pub returns-in_err-extend_from_slice-clause-err : goal.returns-in_err-extend_from_slice-clause-err
returns-in_err-extend_from_slice-clause-err c =
    let some : 0 < vec_len c.args.files.now = c.in-Some.ensures.variant.0 refl in
    let len : vec_len c.args.files.now ≡ length c.args.files.now.items = c.args.files.now.ok.0 in
    on_err c.from_residual.result (unchanged c.args.files.now.items (vec_len c.args.files.now - 1) c.in-Some.last.now c.extend_from_slice.new.self (omega (arith, some, len)) c.in-Some.ensures.value c.in_err-extend_from_slice.ensures.items)

pub returns-clause-ok : goal.returns-clause-ok
returns-clause-ok c =
    let some : 0 < vec_len c.args.files.now = c.in-Some.ensures.variant.0 refl in
    let len : vec_len c.args.files.now ≡ length c.args.files.now.items = c.args.files.now.ok.0 in
    changed (λ old. old ++ c.args.bytes.now) c.args.files.now.items (vec_len c.args.files.now - 1) c.in-Some.last.now c.extend_from_slice.new.self (omega (arith, some, len)) c.in-Some.ensures.value c.in_ok-extend_from_slice.ensures.items
