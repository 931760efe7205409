use Rattle.raft_engine.proofs.Common.{[], None, inr, refl, IfErr-weaker, IfOk-weaker, err_from_is_err_and}
use Rattle.raft_engine.proofs.BlockReadLemmas.{next_block, next_bytes, no_next_block, no_next_bytes, none_yet}
use Rattle.raft_engine.proofs.block_reads.read_one_entry.Goals as goal

pub returns-in_err-block-clause-err : goal.returns-in_err-block-clause-err
returns-in_err-block-clause-err g c =
    let p = err_from_is_err_and c.from_residual.result c.from_residual.ensures.1 in
    rw (p.1, p.2) (no_next_block c.args.region [] [] [] c.args.entry.now None _ _ _ _ (none_yet [] _ refl) (record { other = λ h. h; unread = c.in_err-block.ensures.err }))

pub returns-clause-ok : goal.returns-clause-ok
returns-clause-ok g c =
    let n = next_block [] [] c.args.entry.now None c.in_ok-block.block _ _ _ (none_yet [] _ refl) (record { placed = c.in_ok-block.ensures.placed; got = inr (λ h. h, c.in_ok-block.ensures.ok) }) in
    IfOk-weaker c.copy_entry_bytes.result _ _ (λ bytes b. (next_bytes [] [] c.args.entry.now bytes.items c.in_ok-block.block _ _ n b).read) c.copy_entry_bytes.ensures.ok

pub returns-clause-err : goal.returns-clause-err
returns-clause-err g c =
    let n = next_block [] [] c.args.entry.now None c.in_ok-block.block _ _ _ (none_yet [] _ refl) (record { placed = c.in_ok-block.ensures.placed; got = inr (λ h. h, c.in_ok-block.ensures.ok) }) in
    IfErr-weaker c.copy_entry_bytes.result _ _ (λ error b. no_next_bytes c.args.region [] [] [] c.args.entry.now c.in_ok-block.block _ _ error n b) c.copy_entry_bytes.ensures.err
