use Rattle.raft_accessor.proofs.Common.{entries_of_block, Memory, ◌≡◌, ok_or, OnSome, IfSome, end_of, other, counts_with_run, table_of, after_replay, live_of, start_of, refl}
use Rattle.raft_accessor.proofs.AccessorLemmas.{AtSlot, at-slot, changed-at, kept-at, moved-at, with_slot, slot-counts}
use Rattle.raft_accessor.proofs.accessor.MemTableAccessor.try_replay_block.Goals as goal

pub try_replay-requires-clause-counted : goal.try_replay-requires-clause-counted
try_replay-requires-clause-counted c = slot-counts c.args.id c.self.invariant c.slot_of.ensures.value c.slot_of.ensures.bound c.index_mut.ensures.value

slotted : (c : goal.After-self-1) → AtSlot c.self.inside (with_slot c.self.inside c.slot_of.result c.try_replay.new.self c.try_replay.new.stats) c.args.self.now c.args.id c.slot_of.result c.index_mut.result.now c.try_replay.new.self
slotted c = at-slot c.self.invariant c.self.view_is c.slot_of.ensures.value c.slot_of.ensures.bound c.index_mut.ensures.value refl c.try_replay.ensures.outcome.one c.try_replay.ensures.outcome.recounted

pub invariant_of-self : goal.invariant_of-self
invariant_of-self c = kept-at (slotted c)

pub returns : goal.returns
returns c =
    let run = entries_of_block c.args.first c.args.place c.args.spans.now in
    let r = c.try_replay.result in
    record {
      changed = changed-at (slotted c) (λ t. after_replay c.args.queue t run) (λ t k e. ⊥) (ok_or r Memory) c.try_replay.ensures.outcome refl;
      accepted = moved-at (slotted c) (λ o p k. OnSome r (live_of (other c.args.queue) (table_of c.args.id o) ≡ 0)) c.try_replay.ensures.accepted;
      counts = moved-at (slotted c) (λ o p k. OnSome r (c.try_replay.new.stats ≡ counts_with_run c.args.queue (table_of c.args.id o).entries run k)) c.try_replay.ensures.counts_ok;
      ends = moved-at (slotted c) (λ o p k. IfSome r (λ ends. ends ≡ (start_of (table_of c.args.id o).entries, end_of (table_of c.args.id o).entries))) c.try_replay.ensures.ends;
    }
