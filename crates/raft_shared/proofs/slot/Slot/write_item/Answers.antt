use Rattle.raft_shared.proofs.Common.{Inside, ◌≡◌, refl, sym, ap, ◌∙◌, item_of, slot_of, Slot, writing_shown, table-counted}
use Rattle.raft_shared.proofs.SharedLemmas.{kept-with, all-after, slot-written}
use Rattle.raft_shared.proofs.slot.Slot.write_item.Goals as goal

pub write_item-requires : goal.write_item-requires
write_item-requires c = table-counted c.self.inside.tables c.self.inside.stats c.args.item.raft_group_id c.self.invariant.counted

abbrev after : goal.After-write_item → Inside
after c = record c.self.inside { tables = c.write_item.new.self; stats = c.write_item.new.stats; cleaned = c.write_item.new.cleaned }

own : (c : goal.After-write_item) → slot_of c.args.item.raft_group_id ≡ c.self.inside.number
own c = c.requires ∙ sym (ap (λ (s : Slot). s.number) c.self.view_is)

pub invariant_of-self : goal.invariant_of-self
invariant_of-self c =
    kept-with c.self.inside (after c) c.args.item.raft_group_id c.self.invariant (own c) refl c.write_item.ensures.one c.write_item.ensures.recounted
    (all-after (λ id. slot_of id ≡ c.self.inside.number) (writing_shown c.args.how) (item_of c.args.item) c.write_item.result c.self.inside.cleaned.items
    c.write_item.new.cleaned.items (own c) c.self.invariant.cleaned c.write_item.ensures.cleaned c.write_item.ensures.cleaned_err)

pub returns-clause-written : goal.returns-clause-written
returns-clause-written c = rw (← c.self.view_is) (slot-written (writing_shown c.args.how) c.self.inside (after c) (item_of c.args.item) c.write_item.result c.self.invariant c.write_item.ensures)
