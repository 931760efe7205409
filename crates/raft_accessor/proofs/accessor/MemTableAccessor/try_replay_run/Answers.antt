use Rattle.raft_accessor.proofs.Common.{◌≡◌, ℕ, Ok, refl, ap, end_of, other, counts_with_run, table_of, after_replay, live_of}
use Rattle.raft_accessor.proofs.AccessorLemmas.{AtSlot, at-slot, with_slot, kept-at, changed-at, moved-at, slot-counts}
use Rattle.raft_accessor.proofs.accessor.MemTableAccessor.try_replay_run.Goals as goal

pub try_replay-requires-clause-counted : goal.try_replay-requires-clause-counted
try_replay-requires-clause-counted c = slot-counts c.args.id c.self.invariant c.slot_of.ensures.value c.slot_of.ensures.bound c.index_mut.ensures.value

pub invariant_of-self : goal.invariant_of-self
invariant_of-self c = kept-at {id = c.args.id} (at-slot c.self.invariant c.self.view_is c.slot_of.ensures.value c.slot_of.ensures.bound c.index_mut.ensures.value refl c.try_replay.ensures.outcome.one c.try_replay.ensures.outcome.recounted)

pub invariant_of-self-2 : goal.invariant_of-self-2
invariant_of-self-2 c = kept-at {id = c.args.id} (at-slot c.self.invariant c.self.view_is c.slot_of.ensures.value c.slot_of.ensures.bound c.index_mut.ensures.value refl
    c.try_replay.ensures.outcome.one c.try_replay.ensures.outcome.recounted)

slotted : (c : goal.In_ok-end) → AtSlot c.self.inside (with_slot c.self.inside c.slot_of.result c.try_replay.new.self c.try_replay.new.stats) c.args.self.now c.args.id c.slot_of.result c.index_mut.result.now c.try_replay.new.self
slotted c = at-slot c.self.invariant c.self.view_is c.slot_of.ensures.value c.slot_of.ensures.bound c.index_mut.ensures.value refl c.try_replay.ensures.outcome.one c.try_replay.ensures.outcome.recounted

pub returns-clause-changed : goal.returns-clause-changed
returns-clause-changed c =
    let put = changed-at (slotted c) (λ t. after_replay c.args.queue t c.args.run.now) (λ t k e. ⊥) (Ok (c.in_ok-end.field-0-0, c.in_ok-end.end)) c.in_ok-end.ensures.outcome refl in
    record { ok = put.ok; others = put.others; err = tt; counts_err = tt; fault = tt; cleaned = put.cleaned }

pub returns-clause-accepted : goal.returns-clause-accepted
returns-clause-accepted c = moved-at (slotted c) (λ o p k. live_of (other c.args.queue) (table_of c.args.id o) ≡ 0) c.in_ok-end.ensures.accepted

pub returns-clause-counts : goal.returns-clause-counts
returns-clause-counts c = moved-at (slotted c) (λ o p k. c.try_replay.new.stats ≡ counts_with_run c.args.queue (table_of c.args.id o).entries c.args.run.now k) c.in_ok-end.ensures.counts_ok

pub returns-clause-end : goal.returns-clause-end
returns-clause-end c = moved-at (slotted c) (λ o p k. c.in_ok-end.end ≡ end_of (table_of c.args.id o).entries) (ap (λ (ends : ℕ × ℕ). ends.1) c.in_ok-end.ensures.ends)
