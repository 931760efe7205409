use Rattle.raft_accessor.proofs.Common.{slice_set, sym, ap, subst, ◌∙◌, with_item, together, IsSlotTaken, with_all_deleted}
use Rattle.raft_accessor.specs.declared.accessor.MemTableAccessor.TheInside.{Inside}
use Rattle.raft_accessor.proofs.SlotTableLemmas.{IsEmptied, slot-counted-all, shown-emptied, kept-emptied}
use Rattle.raft_accessor.proofs.accessor.MemTableAccessor.take_slot.Goals as goal

pub take_counts-counts-requires : goal.take_counts-counts-requires
take_counts-counts-requires c = rw c.replace-tables.ensures.value (slot-counted-all c.self.inside c.args.number c.index_mut.result.now c.self.invariant c.requires c.index_mut.ensures.value)

abbrev after : goal.After-take_counts-counts → Inside
after c = record c.self.inside { slots = with_item c.self.inside.slots c.args.number c.replace-tables.new.dest; stats = c.take_counts-counts.new.stats }

emptied : (c : goal.After-take_counts-counts) → IsEmptied c.self.inside (after c) c.args.number c.index_mut.result.now
emptied c = record {
  bound = c.requires;
  lent = c.index_mut.ensures.value;
  slots = ap (slice_set c.self.inside.slots.items c.args.number) (c.replace-tables.ensures.after ∙ c.new-none.ensures);
  counts = c.take_counts-counts.ensures.left ∙ ap (λ m. with_all_deleted m c.self.inside.stats) c.replace-tables.ensures.value;
}

pub invariant_of-self : goal.invariant_of-self
invariant_of-self c = kept-emptied c.self.inside (after c) c.args.number c.index_mut.result.now c.self.invariant (emptied c)

pub returns-clause-taken : goal.returns-clause-taken
returns-clause-taken c =
    subst (IsSlotTaken c.args.number c.args.self.now.tables (together (after c).slots.items)) (sym c.replace-tables.ensures.value)
    (shown-emptied c.self.inside (after c) c.args.self.now c.args.number c.index_mut.result.now c.self.invariant c.self.view_is (emptied c))
