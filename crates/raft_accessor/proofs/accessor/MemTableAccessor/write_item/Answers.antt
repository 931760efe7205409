use Rattle.raft_accessor.proofs.Common.{item_of, writing_shown, refl}
use Rattle.raft_accessor.proofs.AccessorLemmas.{AtSlot, at-slot, kept-at, with_slot, written-at, slot-counts}
use Rattle.raft_accessor.proofs.accessor.MemTableAccessor.write_item.Goals as goal

pub write_item-requires : goal.write_item-requires
write_item-requires c = slot-counts c.args.item.raft_group_id c.self.invariant c.slot_of.ensures.value c.slot_of.ensures.bound c.index_mut.ensures.value

slotted : (c : goal.After-self-1) → AtSlot c.self.inside (record (with_slot c.self.inside c.slot_of.result c.write_item.new.self c.write_item.new.stats) {
  cleaned =
      c.write_item.new.cleaned;
}) c.args.self.now c.args.item.raft_group_id c.slot_of.result c.index_mut.result.now c.write_item.new.self
slotted c = at-slot c.self.invariant c.self.view_is c.slot_of.ensures.value c.slot_of.ensures.bound c.index_mut.ensures.value refl c.write_item.ensures.one c.write_item.ensures.recounted

pub invariant_of-self : goal.invariant_of-self
invariant_of-self c = kept-at (slotted c)

pub returns : goal.returns
returns c = written-at (item_of c.args.item) (slotted c) (writing_shown c.args.how) c.write_item.result c.write_item.ensures
