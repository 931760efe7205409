use Rattle.raft_engine.proofs.Common.{err_from_is_err_and, rules, ◌≡◌, ◌≢◌, ◌∷◌, [], ap, ◌∙◌, FileId, LogFileContext, Rewrite, Ask, Put, ask, bytes_for}
use Rattle.raft_engine.proofs.AskedLemmas.{put_failed, told_so}
use Rattle.raft_engine.proofs.opened.put_told_batch.Goals as goal

pub returns-in_err-put_batch-clause-err : goal.returns-in_err-put_batch-clause-err
returns-in_err-put_batch-clause-err g c =
    let r = c.args.reading.now in
    let is : c.new-file.result ≡ record { id = record { queue = Rewrite; seq = r.rewrite.seq }; version = c.args.version } = c.new-file.ensures ∙ ap (λ (id : FileId). record { id = id; version = c.args.version }) c.new.ensures in
    let put = ap (λ (f : LogFileContext). ask f.id.queue (Put (bytes_for f r.told))) is in
    let some : r.told.items ≢ [] = search rules in
    let p = err_from_is_err_and c.from_residual.result c.from_residual.ensures.1 in
    rw (p.1, p.2)
    (put_failed (g.F.EngineFiles.may_fail) c.args.version r.rewrite.seq r.told (g.F.EngineFiles.asked c.args.files.now)
    (g.F.EngineFiles.asked c.put_batch.new.files) (ask c.new-file.result.id.queue (Put (bytes_for c.new-file.result r.told))) _ some put
    c.in_err-put_batch.ensures.err c.in_err-put_batch.ensures.fault)

pub returns-clause-ok : goal.returns-clause-ok
returns-clause-ok g c =
    let r = c.args.reading.now in
    let is : c.new-file.result ≡ record { id = record { queue = Rewrite; seq = r.rewrite.seq }; version = c.args.version } = c.new-file.ensures ∙ ap (λ (id : FileId). record { id = id; version = c.args.version }) c.new.ensures in
    let put = ap (λ (f : LogFileContext). ask f.id.queue (Put (bytes_for f r.told))) is in
    let some : r.told.items ≢ [] = search rules in
    (told_so (g.F.EngineFiles.may_fail) c.sync.result c.args.version r.rewrite.seq r.told (g.F.EngineFiles.asked c.args.files.now) (g.F.EngineFiles.asked c.put_batch.new.files) (g.F.EngineFiles.asked c.sync.new.self) some
    (c.in_ok-put_batch.ensures.ok ∙ ap (λ (a : Ask). a ∷ g.F.EngineFiles.asked c.args.files.now) put) c.sync.ensures.ok c.sync.ensures.err c.sync.ensures.fault).0

pub returns-clause-err : goal.returns-clause-err
returns-clause-err g c =
    let r = c.args.reading.now in
    let is : c.new-file.result ≡ record { id = record { queue = Rewrite; seq = r.rewrite.seq }; version = c.args.version } = c.new-file.ensures ∙ ap (λ (id : FileId). record { id = id; version = c.args.version }) c.new.ensures in
    let put = ap (λ (f : LogFileContext). ask f.id.queue (Put (bytes_for f r.told))) is in
    let some : r.told.items ≢ [] = search rules in
    (told_so (g.F.EngineFiles.may_fail) c.sync.result c.args.version r.rewrite.seq r.told (g.F.EngineFiles.asked c.args.files.now) (g.F.EngineFiles.asked c.put_batch.new.files) (g.F.EngineFiles.asked c.sync.new.self) some
    (c.in_ok-put_batch.ensures.ok ∙ ap (λ (a : Ask). a ∷ g.F.EngineFiles.asked c.args.files.now) put) c.sync.ensures.ok c.sync.ensures.err c.sync.ensures.fault).1
