use Rattle.raft_shared.proofs.Common.{◌≡◌, is_open, HasCleans}
use Rattle.raft_shared.proofs.shared_accessor.SharedAccessor.take_cleaned_region_logs.Given as goal

abbrev pub invariant-loop-slot : goal.invariant-loop-slot
invariant-loop-slot g l = (l.logs.stage ≡ is_open) × HasCleans l.fn.logs l.logs
