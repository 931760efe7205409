use Rattle.raft_accessor.proofs.Common.{Accessor, ◌≡◌, ap, ◌∙◌, table_of, with_table, with_table_deleted, refl}
use Rattle.std.specs.FinMap as finite
use Rattle.raft_accessor.proofs.MapLemmas.{get_gone}
use Rattle.raft_accessor.proofs.AccessorLemmas.{AtSlot, at-gone, kept-at, moved-at, tables-at, with_slot, slot-counts}
use Rattle.raft_accessor.proofs.accessor.MemTableAccessor.take.Goals as goal

pub remove_boxed-requires : goal.remove_boxed-requires
remove_boxed-requires c = slot-counts c.args.id c.self.invariant c.slot_of.ensures.value c.slot_of.ensures.bound c.index_mut.ensures.value

slotted : (c : goal.After-self-1) → AtSlot c.self.inside (with_slot c.self.inside c.slot_of.result c.remove_boxed.new.self c.remove_boxed.new.stats) c.args.self.now c.args.id c.slot_of.result c.index_mut.result.now c.remove_boxed.new.self
slotted c = at-gone c.self.invariant c.self.view_is c.slot_of.ensures.value c.slot_of.ensures.bound c.index_mut.ensures.value refl c.remove_boxed.ensures.after c.remove_boxed.ensures.recounted

pub invariant_of-self : goal.invariant_of-self
invariant_of-self c = kept-at (slotted c)

pub returns : goal.returns
returns c = record {
  taken = record {
    tables = tables-at (slotted c) ∙ ap (with_table c.args.self.now.tables c.args.id) (ap (λ m. finite.get m c.args.id) c.remove_boxed.ensures.after ∙ get_gone c.index_mut.result.now c.args.id);
    removed = moved-at (slotted c) (λ o p k. c.remove_boxed.result ≡ o) c.remove_boxed.ensures.removed;
    own = c.remove_boxed.ensures.own;
    counts = moved-at (slotted c) (λ o p k. c.remove_boxed.new.stats ≡ with_table_deleted (table_of c.args.id o) k) c.remove_boxed.ensures.counts;
    cleaned = ap (λ (x : Accessor). x.cleaned) c.self.view_is;
  };
}
