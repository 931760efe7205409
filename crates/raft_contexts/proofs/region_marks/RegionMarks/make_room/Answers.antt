use Rattle.raft_contexts.proofs.Common.{refl, with_item}
use Rattle.raft_contexts.specs.declared.region_marks.RegionMarks.TheInside.{Inside}
use Rattle.raft_contexts.proofs.RegionMarksLemmas.{InSlot, kept-same, kept-room, same-in}
use Rattle.raft_contexts.proofs.region_marks.RegionMarks.make_room.Goals as goal

abbrev after : goal.After-self-1 → Inside
after c = record c.self.inside { slots = with_item c.fill_missing_slots.new.slots c.args.slot c.make_room.new.self }

slotted : (c : goal.After-self-1) → InSlot c.self.inside (after c) c.fill_missing_slots.new.slots.items c.args.slot c.index_mut.result.now c.make_room.new.self
slotted c = record { made = c.in_ok-fill_missing_slots.ensures.ok; bound = c.requires; lent = c.index_mut.ensures.value; set = refl }

pub invariant_of-self : goal.invariant_of-self
invariant_of-self c = kept-same c.self.inside (record c.self.inside { slots = c.fill_missing_slots.new.slots }) c.self.invariant c.in_err-fill_missing_slots.ensures.err

pub invariant_of-self-2 : goal.invariant_of-self-2
invariant_of-self-2 c = kept-room c.self.inside (after c) c.fill_missing_slots.new.slots.items c.args.slot c.index_mut.result.now c.make_room.new.self c.self.invariant (slotted c) c.make_room.ensures

pub returns : goal.returns
returns c = same-in c.self.inside (after c) c.fill_missing_slots.new.slots.items c.args.slot c.index_mut.result.now c.make_room.new.self c.self.invariant (slotted c) c.args.self.now c.self.view_is c.make_room.ensures
