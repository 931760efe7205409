use Rattle.raft_engine.proofs.Common.{Some, None}
use Rattle.raft_engine.proofs.FetchedLemmas.{fetched_consecutive}
use Rattle.raft_engine.proofs.rewriting.entries_to_move.Goals as goal

pub returns-in_ok-fetch_entry_indexes_before-in-Some-clause-consecutive : goal.returns-in_ok-fetch_entry_indexes_before-in-Some-clause-consecutive
returns-in_ok-fetch_entry_indexes_before-in-Some-clause-consecutive c =
    fetched_consecutive (Some c.in-Some.gate) c.args.table.now.entries _ _ c.holds_one_run.ensures c.new-entries.ensures.items c.in_ok-fetch_entry_indexes_before-in-Some.ensures.ok

pub returns-in_ok-fetch_rewritten_entry_indexes-in-None-clause-consecutive : goal.returns-in_ok-fetch_rewritten_entry_indexes-in-None-clause-consecutive
returns-in_ok-fetch_rewritten_entry_indexes-in-None-clause-consecutive c =
    fetched_consecutive None c.args.table.now.entries _ _ c.holds_one_run.ensures c.new-entries.ensures.items c.in_ok-fetch_rewritten_entry_indexes-in-None.ensures.ok
