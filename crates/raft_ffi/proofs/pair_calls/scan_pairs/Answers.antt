use Rattle.std.proofs.Common.{rules}
use Rattle.raft_ffi.proofs.PairLemmas.{handed_out}
use Rattle.raft_ffi.proofs.pair_calls.scan_pairs.Goals as goal

pub returns-clause-ok : goal.returns-clause-ok
returns-clause-ok c = handed_out c.copy_pairs.result _ _ _ _ _ _ _ _ _ _ c.in_ok-found.ensures.ok (search rules)
