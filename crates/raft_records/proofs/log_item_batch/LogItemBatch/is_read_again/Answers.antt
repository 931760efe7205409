use Rattle.raft_records.proofs.Common.{◌^◌, ◌<◌, List, [], ◌++◌, map, length, subst, arith, length-map, Item, bare, item_of, IsItemBatch, item_batch_bytes, checksum_bytes}
use Rattle.raft_records.proofs.WrittenLemmas.{batch_spelled}
use Rattle.raft_records.proofs.log_item_batch.LogItemBatch.is_read_again.Goals as goal

pub returns-clause-spelled : goal.returns-clause-spelled
returns-clause-spelled c signature =
    let items = map item_of c.self.inside.items.items in
    let count : length items < 2 ^ 64 = omega (arith, length-map c.self.inside.items.items item_of, c.len-count.ensures, c.len-count.type_inv) in
    subst (λ (xs : List Item). IsItemBatch (item_batch_bytes xs ++ checksum_bytes signature (item_batch_bytes xs)) signature (map bare xs) [])
    c.self.view_is (batch_spelled signature items c.self.invariant.0.fit c.self.invariant.0.in_range count)
