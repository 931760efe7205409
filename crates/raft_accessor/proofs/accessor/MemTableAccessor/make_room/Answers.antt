use Rattle.raft_accessor.proofs.Common.{◌≡◌, sym, ap, subst, ◌∙◌, slice_set, length, with_item, set-get_or, AreCountsOf, together, AreSlots}
use Rattle.raft_accessor.specs.declared.accessor.MemTableAccessor.TheInside.{Inside}
use Rattle.raft_accessor.proofs.accessor.MemTableAccessor.make_room.Goals as goal

abbrev after : goal.After-self-1 → Inside
after c = record c.self.inside { slots = with_item c.self.inside.slots c.args.slot c.make_room.new.self }

same : (c : goal.After-self-1) → (after c).slots.items ≡ c.self.inside.slots.items
same c = ap (slice_set c.self.inside.slots.items c.args.slot) (c.make_room.ensures ∙ c.index_mut.ensures.value) ∙ set-get_or c.self.inside.slots.items c.args.slot _

pub invariant_of-self : goal.invariant_of-self
invariant_of-self c = record {
  slots = subst (AreSlots 0) (sym (same c)) c.self.invariant.slots;
  all = ap length (same c) ∙ c.self.invariant.all;
  counted = subst (λ s. AreCountsOf (together s) c.self.inside.stats) (sym (same c)) c.self.invariant.counted;
}

pub returns : goal.returns
returns c = ap (λ s. record { tables = together s; cleaned = c.self.inside.cleaned.items; counts = c.self.inside.stats }) (same c) ∙ c.self.view_is
