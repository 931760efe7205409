use Rattle.raft_accessor.proofs.Common.{Append, ◌≡◌, ◌+◌, ◌≤◌, true, None, Some, OnOk, IfOk, IfErr, LogQueue, live_in, with_table_deleted, IsRecounted, IsRunOver, IsFaultUnder, table_over_older, table_of, live_of, refl, sym, ap, ◌∙◌, arith}
use Rattle.raft_accessor.specs.TableJoins.{AreEndsMet}
use Rattle.raft_accessor.proofs.AccessorLemmas.{AtSlot, alone-at, at-slot, kept-at, moved-at, with_slot, slot-counts}
use Rattle.raft_accessor.proofs.LiveLemmas.{table_live-le}
use Rattle.raft_accessor.proofs.SlotLemmas.{get-shown}
use Rattle.raft_accessor.proofs.accessor.MemTableAccessor.join_table.Goals as goal

pub join_table-requires-clause-older : goal.join_table-requires-clause-older
join_table-requires-clause-older c = λ e.
    let same = get-shown c.self.inside c.args.self.now c.args.id c.slot_of.result c.index_mut.result.now c.self.invariant c.self.view_is c.slot_of.ensures.value c.slot_of.ensures.bound c.index_mut.ensures.value in
    ap (λ o. live_of Append (table_of c.args.id o)) (sym same) ∙ omega (arith, c.requires.older e, table_live-le Append c.args.self.now.tables c.args.id)

pub join_table-requires-clause-counted : goal.join_table-requires-clause-counted
join_table-requires-clause-counted c = slot-counts c.args.id c.self.invariant c.slot_of.ensures.value c.slot_of.ensures.bound c.index_mut.ensures.value

slotted : (c : goal.After-self-1) → AtSlot c.self.inside (with_slot c.self.inside c.slot_of.result c.join_table.new.self c.join_table.new.stats) c.args.self.now c.args.id c.slot_of.result c.index_mut.result.now c.join_table.new.self
slotted c = at-slot c.self.invariant c.self.view_is c.slot_of.ensures.value c.slot_of.ensures.bound c.index_mut.ensures.value refl c.join_table.ensures.one c.join_table.ensures.recounted

pub invariant_of-self : goal.invariant_of-self
invariant_of-self c = kept-at (slotted c)

pub returns-clause-joined : goal.returns-clause-joined
returns-clause-joined c =
    let done = c.join_table.ensures in
    let r = c.join_table.result in
    record {
      ok = moved-at (slotted c) (λ o p k. IsRunOver c.args.queue c.args.mark.now (table_of c.args.id c.args.newer) (table_of c.args.id o) → OnOk r (table_over_older c.args.queue c.args.id c.args.mark.now c.args.newer o ≡ Some p)) done.ok;
      answer = moved-at (slotted c) (λ o p k. IfOk r (AreEndsMet c.args.mark.now (table_of c.args.id o))) done.answer;
      fault = moved-at (slotted c) (λ o p k. IsRunOver c.args.queue c.args.mark.now (table_of c.args.id c.args.newer) (table_of c.args.id o)
          → IfErr r (IsFaultUnder c.args.queue k c.args.mark.now (table_of c.args.id c.args.newer) (table_of c.args.id o))) done.fault;
      few = moved-at (slotted c) (λ o p k. OnOk r ((q : LogQueue) → live_of q (table_of c.args.id p) ≤ live_of q (table_of c.args.id o) + live_in q c.args.newer)) done.few;
      one = alone-at (slotted c);
      deleted = moved-at (slotted c) (λ o p k. c.args.mark.now.cleaned ≡ true → c.args.newer ≡ None → OnOk r (c.join_table.new.stats ≡ with_table_deleted (table_of c.args.id o) k)) done.deleted;
      recounted = moved-at (slotted c) (λ o p k. IsRecounted (table_of c.args.id o) (table_of c.args.id p) k c.join_table.new.stats) done.recounted;
    }
