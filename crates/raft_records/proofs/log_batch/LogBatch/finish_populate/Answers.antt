use Rattle.raft_records.proofs.Common.{◌≡◌, ◌≢◌, ◌∙◌, ◌<◌, ◌≤◌, ◌^◌, ℕ, [], length, sym, ap, subst, arith, rules, Batch, encoded, entry_bytes_in, IsHeld}
use Rattle.raft_records.proofs.StageLemmas.{batch_with, cut_held, length_seen, open_of, populated, reheld, unsealed_len}
use Rattle.raft_records.proofs.log_batch.LogBatch.finish_populate.Goals as goal

pub invariant_of-self-in_err-reserve_header : goal.invariant_of-self-in_err-reserve_header
invariant_of-self-in_err-reserve_header c = reheld (open_of c.self.view_is c.requires) c.self.invariant c.reserve_header.ensures.same

pub invariant_of-self-in-Err : goal.invariant_of-self-in-Err
invariant_of-self-in-Err c =
    let start : c.len-start.result ≡ length c.reserve_header.new.buf.items = omega (arith, c.len-start.ensures) in
    cut_held (open_of c.self.view_is c.requires) c.self.invariant c.reserve_header.ensures.same c.in-Err.ensures.err start c.truncate.ensures.items c.complete_batch.ensures.same

pub returns-in-Err-clause-fault : goal.returns-in-Err-clause-fault
returns-in-Err-clause-fault c = λ ne.
    let same = length_seen c.reserve_header.new.buf.items c.self.view_is c.requires c.self.invariant c.reserve_header.ensures.same in
    ((c.in-Err.ensures.fault ne).0, subst (λ (n : ℕ). 2 ^ 56 ≤ n) same (c.in-Err.ensures.fault ne).1)

-- the batch's bytes stand in the buffer, and its entry bytes are the same
encoding : (c : goal.After-len) → IsHeld encoded c.self.inside.item_batch (entry_bytes_in c.self.inside.item_batch c.complete_batch.new.buf.items)
    c.complete_batch.new.buf.items ×
    (entry_bytes_in c.self.inside.item_batch c.complete_batch.new.buf.items ≡ entry_bytes_in c.self.inside.item_batch c.self.inside.buf.items)
encoding c =
    let some : c.self.inside.item_batch ≢ [] = search rules in
    populated c.reserve_header.new.buf.items (open_of c.self.view_is c.requires) c.self.invariant c.reserve_header.ensures.same some c.in_default.ensures.ok c.in_default.ensures.accepted

pub invariant_of-self-2 : goal.invariant_of-self-2
invariant_of-self-2 c =
    subst (λ xs. IsHeld encoded xs (entry_bytes_in xs c.complete_batch.new.buf.items) c.complete_batch.new.buf.items) (sym c.complete_batch.ensures.same) (encoding c).0

pub returns-clause-ok : goal.returns-clause-ok
returns-clause-ok c =
    ap (λ xs. batch_with xs (entry_bytes_in xs c.complete_batch.new.buf.items) encoded) c.complete_batch.ensures.same
    ∙ ap (λ es. batch_with c.self.inside.item_batch es encoded) (encoding c).1
    ∙ ap (λ (b : Batch). batch_with b.items b.entry_bytes encoded) c.self.view_is

pub returns-clause-len : goal.returns-clause-len
returns-clause-len c =
    let some : c.self.inside.item_batch ≢ [] = search rules in
    let size : c.len.result ≡ length c.complete_batch.new.buf.items = omega (arith, c.len.ensures) in
    size ∙ unsealed_len some c.in_default.ensures.ok ∙ length_seen c.reserve_header.new.buf.items c.self.view_is c.requires c.self.invariant c.reserve_header.ensures.same

pub returns-clause-accepted : goal.returns-clause-accepted
returns-clause-accepted c =
    subst (λ (n : ℕ). n < 2 ^ 56) (length_seen c.reserve_header.new.buf.items c.self.view_is c.requires c.self.invariant c.reserve_header.ensures.same) c.in_default.ensures.accepted
