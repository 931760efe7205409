use Rattle.raft_records.proofs.Common.{sym, subst, ◌∙◌, ap, Item, IsInBytes, FitsBehind, entry_bytes_of, behind_item}
use Rattle.raft_records.proofs.log_item_batch.LogItemBatch.add_entries_with_offsets.Goals as goal

pub push_item-requires-clause-fits : goal.push_item-requires-clause-fits
push_item-requires-clause-fits c =
    subst (λ (x : Item). FitsBehind (entry_bytes_of c.args.self.now) x.content) (sym c.new_entry_indexes.ensures) c.requires.fits

pub push_item-requires-clause-end : goal.push_item-requires-clause-end
push_item-requires-clause-end c =
    c.requires.end ∙ sym (ap (behind_item (entry_bytes_of c.args.self.now)) c.new_entry_indexes.ensures)

pub push_item-requires-clause-in_bytes : goal.push_item-requires-clause-in_bytes
push_item-requires-clause-in_bytes c = subst (λ (x : Item). IsInBytes x.content) (sym c.new_entry_indexes.ensures) tt
