use Rattle.raft_records.proofs.Common.{IfSome, ◌∙◌, sym, subst, IsKeptBeside, AreDecodedIn}
use Rattle.raft_records.proofs.CloneLemmas.{items_clone}
use Rattle.raft_records.proofs.log_item_batch.LogItemBatchClone.clone.Goals as goal

pub invariant_of-result : goal.invariant_of-result
invariant_of-result c =
    let same = items_clone c.self.inside.items.items c.in_ok-items.items.items c.in_ok-items.ensures.cases.0 in
    subst (λ items. IsKeptBeside items c.self.inside.item_size c.self.inside.entries_size c.self.inside.checksum × IfSome c.self.inside.decoded_in (λ file. AreDecodedIn file items)) (sym same) c.self.invariant

pub returns : goal.returns
returns c =
    record { cases = items_clone c.self.inside.items.items c.in_ok-items.items.items c.in_ok-items.ensures.cases.0 ∙ c.self.view_is }
