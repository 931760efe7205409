use Rattle.raft_ffi.proofs.Common.{◌∙◌, subst, Lasts}
use Rattle.raft_ffi.proofs.order_calls.raft_ffi_engine_take_order.Goals as goal

pub returns-in-Taken-clause-lasts : goal.returns-in-Taken-clause-lasts
returns-in-Taken-clause-lasts c = rw (c.take-held.ensures.value) (subst Lasts (c.behind-held.view_is ∙ c.deref.ensures) c.nothing_synced_is_lost.ensures)

pub returns-in-TooLong-clause-lasts : goal.returns-in-TooLong-clause-lasts
returns-in-TooLong-clause-lasts c = rw (c.take-held.ensures.value) (subst Lasts (c.behind-held.view_is ∙ c.deref.ensures) c.nothing_synced_is_lost.ensures)

pub returns-in-NoneWaits-clause-lasts : goal.returns-in-NoneWaits-clause-lasts
returns-in-NoneWaits-clause-lasts c = rw (c.take-held.ensures.value) (subst Lasts (c.behind-held.view_is ∙ c.deref.ensures) c.nothing_synced_is_lost.ensures)
