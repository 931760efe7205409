use Rattle.raft_accessor.proofs.Common.{Memory, ap, Accessor, ◌≡◌, ◌≢◌, IfErr, table_of, table_in, with_neighbor, IsFaultBeside, neighbor_rule, refl}
use Rattle.raft_accessor.proofs.MergeLemmas.{refused-with}
use Rattle.raft_accessor.proofs.AccessorLemmas.{AtSlot, alone-at, at-slot, kept-at, merged-at, moved-at, with_slot, slot-counts}
use Rattle.raft_accessor.proofs.accessor.MemTableAccessor.merge_table.Goals as goal

pub merge_neighbor-requires-clause-counted : goal.merge_neighbor-requires-clause-counted
merge_neighbor-requires-clause-counted c = slot-counts c.args.id c.self.invariant c.slot_of.ensures.value c.slot_of.ensures.bound c.index_mut.ensures.value

slotted : (c : goal.After-self-1) → AtSlot c.self.inside (with_slot c.self.inside c.slot_of.result c.merge_neighbor.new.self c.merge_neighbor.new.stats) c.args.self.now
    c.args.id c.slot_of.result c.index_mut.result.now c.merge_neighbor.new.self
slotted c = at-slot c.self.invariant c.self.view_is c.slot_of.ensures.value c.slot_of.ensures.bound c.index_mut.ensures.value refl c.merge_neighbor.ensures.one c.merge_neighbor.ensures.recounted

pub invariant_of-self : goal.invariant_of-self
invariant_of-self c = kept-at (slotted c)

pub returns : goal.returns
returns c =
    let old = table_in c.index_mut.result.now c.args.id in
    let r = c.merge_neighbor.result in
    record {
      ok = merged-at (slotted c) (with_neighbor c.args.kind) c.args.newer r c.merge_neighbor.ensures;
      fault = moved-at (slotted c) (λ o p k. IfErr r (IsFaultBeside c.args.kind c.merge_neighbor.new.stats (table_of c.args.id o) c.args.newer))
          (refused-with (neighbor_rule c.args.kind old c.args.newer) c.merge_neighbor.new.stats old c.args.newer r c.merge_neighbor.ensures.fault);
      err = moved-at (slotted c) (λ o p k. IfErr r (λ e. e ≢ Memory → table_of c.args.id p ≡ table_of c.args.id o)) c.merge_neighbor.ensures.err;
      others = alone-at (slotted c);
      cleaned = ap (λ (x : Accessor). x.cleaned) c.self.view_is;
    }
