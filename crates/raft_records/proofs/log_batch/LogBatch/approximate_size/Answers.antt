use Rattle.raft_records.proofs.Common.{◌≡◌, ◌≢◌, ◌+◌, ◌^◌, ◌<◌, ◌≤◌, ◌∙◌, List, [], length, ap, sym, subst, arith, rules, Item, item_batch_bytes, Batch, at_most_usize, HaveSmallNumbers}
use Rattle.raft_records.proofs.LengthLemmas.{open_covers}
use Rattle.raft_records.proofs.StageLemmas.{encoded_length_at, length_at, not_open}
use Rattle.raft_records.proofs.log_batch.LogBatch.approximate_size.Goals as goal

-- how many bytes were made
made : (c : goal.After-len) → c.len.result ≡ length c.self.inside.buf.items
made c = omega (arith, c.len.ensures)

some : (c : goal.After-len) → c.self.inside.item_batch ≢ []
some c = search rules

pub returns-in-Encoded-clause-size : goal.returns-in-Encoded-clause-size
returns-in-Encoded-clause-size c = made c ∙ length_at c.self.view_is (not_open c.self.inside.state c.in-Encoded.is) (some c) c.self.invariant

pub returns-in-Encoded-clause-covers : goal.returns-in-Encoded-clause-covers
returns-in-Encoded-clause-covers c small lt =
    let size = encoded_length_at c.self.view_is (not_open c.self.inside.state c.in-Encoded.is) (some c) c.self.invariant in
    omega (arith, made c, size)

pub returns-in-Open-clause-covers : goal.returns-in-Open-clause-covers
returns-in-Open-clause-covers c small lt =
    let items = ap (λ (b : Batch). b.items) c.self.view_is in
    let size = c.approximate_size-items.result in
    let covers = subst (λ (xs : List Item). length (item_batch_bytes xs) < 2 ^ 56 → length (item_batch_bytes xs) + 4 ≤ size) items (c.approximate_size-items.ensures.covers (subst HaveSmallNumbers (sym items) small)) in
    let entry_bytes : c.entries_size-entry_bytes.result ≡ length c.args.self.now.entry_bytes = c.entries_size-entry_bytes.ensures ∙ sym c.self.invariant.whole ∙ ap (λ (b : Batch). length b.entry_bytes) c.self.view_is in
    let sum : c.saturating_add.result ≡ at_most_usize (size + (16 + length c.args.self.now.entry_bytes + 4)) = omega (arith, c.saturating_add.ensures, entry_bytes) in
    open_covers c.args.self.now.items c.args.self.now.entry_bytes size c.saturating_add.result covers sum lt
