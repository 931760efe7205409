use Rattle.raft_accessor.proofs.Common.{Memory, Append, ◌≡◌, ◌≢◌, [], true, Ok, Err, cond, Put, table_of, refl}
use Rattle.raft_accessor.proofs.AccessorLemmas.{AtSlot, at-slot, kept-at, moved-at, step-at, with_slot, slot-counts}
use Rattle.raft_accessor.proofs.accessor.MemTableAccessor.try_put.Goals as goal

pub try_put-requires : goal.try_put-requires
try_put-requires c = slot-counts c.args.id c.self.invariant c.slot_of.ensures.value c.slot_of.ensures.bound c.index_mut.ensures.value

slotted : (c : goal.After-self-1) → AtSlot c.self.inside (with_slot c.self.inside c.slot_of.result c.try_put.new.self c.try_put.new.stats) c.args.self.now c.args.id c.slot_of.result c.index_mut.result.now c.try_put.new.self
slotted c = at-slot c.self.invariant c.self.view_is c.slot_of.ensures.value c.slot_of.ensures.bound c.index_mut.ensures.value refl (c.try_put.ensures.taken Append []).one (c.try_put.ensures.taken Append []).recounted

pub invariant_of-self : goal.invariant_of-self
invariant_of-self c = kept-at (slotted c)

pub returns-clause-taken : goal.returns-clause-taken
returns-clause-taken c = λ q. step-at (slotted c) q (Put c.args.key.now c.args.value.now c.args.file) (cond c.try_put.result (Ok tt) (Err Memory)) (c.try_put.ensures.taken q c.self.inside.cleaned.items)

pub returns-clause-entries : goal.returns-clause-entries
returns-clause-entries c = moved-at (slotted c) (λ o p k. c.try_put.result ≡ true → (table_of c.args.id o).entries ≢ []) c.try_put.ensures.entries
