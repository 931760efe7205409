use Rattle.raft_engine.proofs.Common.{err_from_is_err_and, map, Append, Rewrite, files_of, file_shown}
use Rattle.raft_engine.proofs.CopiesLemmas.{for_memory, for_reason}
use Rattle.raft_engine.proofs.engine.copies.Engine+MemoryFiles.open_copies.Goals as goal

pub returns-in_err-append-clause-fault : goal.returns-in_err-append-clause-fault
returns-in_err-append-clause-fault g c =
    let p = err_from_is_err_and c.from_residual.result c.from_residual.ensures.1 in
    rw (p.1, p.2) (for_memory c.args.version c.args.workers (files_of Append c.args.files.now) (files_of Rewrite c.args.files.now) _ c.in_err-append.ensures.fault)

pub returns-in_err-rewrite-clause-fault : goal.returns-in_err-rewrite-clause-fault
returns-in_err-rewrite-clause-fault g c =
    let p = err_from_is_err_and c.from_residual-in_err-rewrite.result c.from_residual-in_err-rewrite.ensures.1 in
    rw (p.1, p.2) (for_memory c.args.version c.args.workers (files_of Append c.args.files.now) (files_of Rewrite c.args.files.now) _ c.in_err-rewrite.ensures.fault)

pub returns-in_err-found_append-clause-fault : goal.returns-in_err-found_append-clause-fault
returns-in_err-found_append-clause-fault g c =
    let p = err_from_is_err_and c.from_residual-in_err-found_append.result c.from_residual-in_err-found_append.ensures.1 in
    rw (p.1, p.2) (for_memory c.args.version c.args.workers (files_of Append c.args.files.now) (files_of Rewrite c.args.files.now) _ c.in_err-found_append.ensures.fault)

pub returns-in_err-found_rewrite-clause-fault : goal.returns-in_err-found_rewrite-clause-fault
returns-in_err-found_rewrite-clause-fault g c =
    let p = err_from_is_err_and c.from_residual-in_err-found_rewrite.result c.from_residual-in_err-found_rewrite.ensures.1 in
    rw (p.1, p.2) (for_memory c.args.version c.args.workers (files_of Append c.args.files.now) (files_of Rewrite c.args.files.now) _ c.in_err-found_rewrite.ensures.fault)

pub returns-in_err-open-clause-fault : goal.returns-in_err-open-clause-fault
returns-in_err-open-clause-fault g c =
    let p = err_from_is_err_and c.from_residual-in_err-open.result c.from_residual-in_err-open.ensures.1 in
    rw (p.1)
    (for_reason c.args.version c.args.workers (files_of Append c.args.files.now) (files_of Rewrite c.args.files.now) (map file_shown c.in_ok-append.append.items) (map file_shown c.in_ok-rewrite.rewrite.items) _ _ p.0
    c.in_ok-append.ensures.ok c.in_ok-rewrite.ensures.ok c.in_err-open.ensures.err p.2)
