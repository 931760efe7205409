use Rattle.std.proofs.Common.{refl}
use Rattle.raft_shared.proofs.SharedLemmas.{kept-listed}
use Rattle.raft_shared.proofs.slot.Slot.push_cleaned.Goals as goal

pub invariant_of-self : goal.invariant_of-self
invariant_of-self c = kept-listed c.self.inside (record c.self.inside { cleaned = c.push.new.self }) c.self.inside.cleaned.items c.self.invariant refl refl refl c.in_err-push.ensures.items c.self.invariant.cleaned
