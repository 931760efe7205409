use Rattle.raft_engine.proofs.Common.{sym, ap, map, ◌∙◌, arith, Decides-eqb, nil_from_length, vec_len, file_shown}
use Rattle.raft_engine.proofs.FoundQueueLemmas.{first_known}
use Rattle.raft_engine.proofs.found_queue.known_files.Goals as goal

pub returns-then-is_empty-clause-ok : goal.returns-then-is_empty-clause-ok
returns-then-is_empty-clause-ok c =
    let none = (Decides-eqb (vec_len c.args.files.now) 0).0 (sym c.is_empty.ensures ∙ c.if-is_empty.true) in
    let held = c.args.files.now.ok.0 in
    first_known _ c.first.result (ap (map file_shown) (nil_from_length c.args.files.now.items (omega arith))) c.first.ensures.closed c.first.ensures.seq c.first.ensures.len
