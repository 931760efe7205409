use Rattle.raft_files.proofs.Common.{◌≡◌, ◌-◌, ◌<◌, length, take, arith, refl, vec_len}
use Rattle.raft_files.proofs.LastLemmas.{changed}
use Rattle.raft_files.proofs.memory_files.cut_last_file.Goals as goal

pub returns-clause-ok : goal.returns-clause-ok
returns-clause-ok c =
    let some : 0 < vec_len c.args.files.now = c.in-Some.ensures.variant.0 refl in
    let len : vec_len c.args.files.now ≡ length c.args.files.now.items = c.args.files.now.ok.0 in
    changed (λ old. take c.args.len old) c.args.files.now.items (vec_len c.args.files.now - 1) c.in-Some.last.now c.truncate.new.self (omega (arith, some, len)) c.in-Some.ensures.value c.truncate.ensures.items
