use Rattle.std.proofs.Common.{inl, inr}
use Rattle.raft_inspect.proofs.PrintedLemmas.{keeps_same}
use Rattle.raftlog.proofs.RegionLemmas.{on_any_error}
use Rattle.raftlog.proofs.regions.print_json_regions.Goals as goal

pub returns-in_err-text-clause-cut_short : goal.returns-in_err-text-clause-cut_short
returns-in_err-text-clause-cut_short g c = on_any_error _ (inl (keeps_same _))

pub returns-in_err-write_text-clause-cut_short : goal.returns-in_err-write_text-clause-cut_short
returns-in_err-write_text-clause-cut_short g c =
    on_any_error _ (inr (record {
      text = c.as_str.result.now;
      of_tables = rw c.as_str.ensures.value c.in_ok-text.ensures.ok;
      written = c.in_err-write_text.ensures.err;
    }))
