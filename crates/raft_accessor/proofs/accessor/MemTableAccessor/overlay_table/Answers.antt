use Rattle.raft_accessor.proofs.Common.{◌≡◌, ◌+◌, ◌≤◌, true, None, Some, OnOk, IfErr, LogQueue, overlaid_region, IsOverlayFault, table_of, live_of, with_table_deleted, IsRecounted, live_in, IsRunOverlaid, refl}
use Rattle.raft_accessor.proofs.AccessorLemmas.{AtSlot, alone-at, at-slot, kept-at, moved-at, with_slot, slot-counts}
use Rattle.raft_accessor.proofs.accessor.MemTableAccessor.overlay_table.Goals as goal

pub overlay_table-requires-clause-counted : goal.overlay_table-requires-clause-counted
overlay_table-requires-clause-counted c = slot-counts c.args.id c.self.invariant c.slot_of.ensures.value c.slot_of.ensures.bound c.index_mut.ensures.value

slotted : (c : goal.After-self-1) → AtSlot c.self.inside (with_slot c.self.inside c.slot_of.result c.overlay_table.new.self c.overlay_table.new.stats) c.args.self.now
    c.args.id c.slot_of.result c.index_mut.result.now c.overlay_table.new.self
slotted c = at-slot c.self.invariant c.self.view_is c.slot_of.ensures.value c.slot_of.ensures.bound c.index_mut.ensures.value refl c.overlay_table.ensures.one c.overlay_table.ensures.recounted

pub invariant_of-self : goal.invariant_of-self
invariant_of-self c = kept-at (slotted c)

pub returns-clause-overlaid : goal.returns-clause-overlaid
returns-clause-overlaid c =
    let done = c.overlay_table.ensures in
    let r = c.overlay_table.result in
    record {
      ok = moved-at (slotted c) (λ o p k. IsRunOverlaid c.args.mark.now (table_of c.args.id c.args.appended) (table_of c.args.id o) → OnOk r (p ≡ overlaid_region c.args.id (Some c.args.mark.now) c.args.appended o)) done.ok;
      fault = moved-at (slotted c) (λ o p k. IfErr r (IsOverlayFault k (table_of c.args.id c.args.appended))) done.fault;
      few = moved-at (slotted c) (λ o p k. OnOk r ((q : LogQueue) → live_of q (table_of c.args.id p) ≤ live_of q (table_of c.args.id o) + live_in q c.args.appended)) done.few;
      one = alone-at (slotted c);
      deleted = moved-at (slotted c) (λ o p k. c.args.mark.now.cleaned ≡ true → c.args.appended ≡ None → OnOk r (c.overlay_table.new.stats ≡ with_table_deleted (table_of c.args.id o) k)) done.deleted;
      recounted = moved-at (slotted c) (λ o p k. IsRecounted (table_of c.args.id o) (table_of c.args.id p) k c.overlay_table.new.stats) done.recounted;
    }
