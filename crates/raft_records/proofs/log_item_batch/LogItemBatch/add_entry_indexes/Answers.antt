use Rattle.raft_records.proofs.Common.{◌≡◌, ap, sym, subst, ◌∙◌, arith, Item, IsInBytes, entries_item, item_of, FitsBehind, with_offsets_from, entry_bytes_of, behind_item}
use Rattle.raft_records.proofs.LayLemmas.{laid_fits, end_of_laid}
use Rattle.raft_records.proofs.log_item_batch.LogItemBatch.add_entry_indexes.Goals as goal

-- the item that is added
made : (c : goal.After-new_entry_indexes) → item_of c.new_entry_indexes.result ≡ entries_item c.args.region (with_offsets_from (entry_bytes_of c.args.self.now) c.args.entry_indexes.items)
made c = c.new_entry_indexes.ensures ∙ ap (entries_item c.args.region) (c.set_offsets-end.ensures.offsets ∙ ap (λ s. with_offsets_from s c.args.entry_indexes.items) c.entries_size-start.ensures)

pub push_item-requires-clause-fits : goal.push_item-requires-clause-fits
push_item-requires-clause-fits c =
    subst (λ (x : Item). FitsBehind (entry_bytes_of c.args.self.now) x.content) (sym (made c)) (laid_fits (entry_bytes_of c.args.self.now) c.args.entry_indexes.items c.requires.consecutive c.requires.room)

pub push_item-requires-clause-end : goal.push_item-requires-clause-end
push_item-requires-clause-end c =
    omega (arith, c.set_offsets-end.ensures.end, c.entries_size-start.ensures, end_of_laid (entry_bytes_of c.args.self.now) c.args.entry_indexes.items, ap (behind_item (entry_bytes_of c.args.self.now)) (made c))

pub push_item-requires-clause-in_bytes : goal.push_item-requires-clause-in_bytes
push_item-requires-clause-in_bytes c = subst (λ (x : Item). IsInBytes x.content) (sym (made c)) tt
