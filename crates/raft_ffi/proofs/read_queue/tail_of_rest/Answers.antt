use Rattle.std.proofs.Common.{◌∙◌, inl, inr, refl, ap, arith, length, List, ℕ}
use Rattle.std.proofs.lemmas.List.{nil_from_length}
use Rattle.std.proofs.lemmas.Result.{err_from_is_err_and}
use Rattle.raft_ffi.proofs.ReadLemmas.{front_refused, front_torn, front_whole}
use Rattle.raft_ffi.proofs.read_queue.tail_of_rest.Goals as goal

pub returns-then-rest_len-eq0-clause-ok : goal.returns-then-rest_len-eq0-clause-ok
returns-then-rest_len-eq0-clause-ok c = λ front f.
    front_whole c.args.mode c.args.file.now c.args.len c.args.rest.now front f (nil_from_length c.args.rest.now (omega (arith, c.if-rest_len-eq0.true)))

pub returns-in_err-error-clause-fault : goal.returns-in_err-error-clause-fault
returns-in_err-error-clause-fault c = λ front f.
    let p = err_from_is_err_and c.from_residual.result c.from_residual.ensures.1 in
    rw (p.1, p.2) (λ other. inr (c.in_err-error.ensures.fault other))

pub returns-in_err-check_rest-clause-fault : goal.returns-in_err-check_rest-clause-fault
returns-in_err-check_rest-clause-fault c = λ front f.
    let p = err_from_is_err_and c.from_residual-in_err-check_rest.result c.from_residual-in_err-check_rest.ensures.1 in
    let offset = c.saturating_sub-offset.ensures in
    let long = f.long in
    rw (p.1, p.2)
    (λ other. inl (front_refused c.args.mode c.args.file.now c.args.len c.args.rest.now front f c.in_ok-error.error (λ none. let n = ap length none in omega (arith, n, c.if-rest_len-eq0.false)) c.in_ok-error.ensures.unreadable
    c.in_ok-error.ensures.why c.in_ok-error.ensures.not_memory c.in_ok-part.part c.saturating_sub-offset.result
    (c.in_ok-part.ensures.ok ∙ ap (λ (xs : List ℕ). record { id = c.args.file.now.id; version = c.args.file.now.version; offset = c.saturating_sub-offset.result; bytes = xs }) c.in_ok-bytes.ensures.items)
    (omega (arith, offset, long)) _ (λ whole n r. c.in_err-check_rest.ensures.refused whole n r other)))

pub returns-clause-ok : goal.returns-clause-ok
returns-clause-ok c = λ front f.
    let offset = c.saturating_sub-offset.ensures in
    let long = f.long in
    front_torn c.args.mode c.args.file.now c.args.len c.args.rest.now front f c.in_ok-error.error (λ none. let n = ap length none in omega (arith, n, c.if-rest_len-eq0.false)) c.in_ok-error.ensures.unreadable
    c.in_ok-error.ensures.why c.in_ok-error.ensures.not_memory c.in_ok-part.part c.saturating_sub-offset.result
    (c.in_ok-part.ensures.ok ∙ ap (λ (xs : List ℕ). record { id = c.args.file.now.id; version = c.args.file.now.version; offset = c.saturating_sub-offset.result; bytes = xs }) c.in_ok-bytes.ensures.items)
    (omega (arith, offset, long)) c.in_ok-check_rest.ensures.tolerated c.in_ok-check_rest.ensures.of_version _ refl
