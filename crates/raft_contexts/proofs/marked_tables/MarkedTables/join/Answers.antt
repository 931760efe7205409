use Rattle.raft_contexts.proofs.Common.{ap, arith, err_from_is_err_and, other, live_in_all, regions_in}
use Rattle.raft_contexts.proofs.JoiningLemmas.{both_fault, both_ok, kept_fault}
use Rattle.raft_contexts.proofs.RegionJoinLemmas.{stand_runs}
use Rattle.raft_contexts.proofs.marked_tables.MarkedTables.join.Goals as goal

pub returns-in_err-join_marked-clause-fault : goal.returns-in_err-join_marked-clause-fault
returns-in_err-join_marked-clause-fault c =
    let p = err_from_is_err_and c.from_residual.result c.from_residual.ensures.1 in
    λ a b. rw (p.1, p.2) (kept_fault c.args.queue c.args.newer.accessor.tables (regions_in c.args.self.now) c.args.newer.marks c.requires.older c.requires.newer _
    c.in_err-join_marked.ensures.fault (stand_runs c.args.queue (regions_in c.args.self.now) (regions_in c.args.newer) a b))

pub join_unmarked-requires-clause-older : goal.join_unmarked-requires-clause-older
join_unmarked-requires-clause-older c = omega (arith, ap (live_in_all (other c.args.queue)) c.append_cleaned.ensures.tables, c.in_ok-join_marked.ensures.few (other c.args.queue), c.requires.older, c.requires.newer)

pub join_unmarked-requires-clause-newer : goal.join_unmarked-requires-clause-newer
join_unmarked-requires-clause-newer c = omega (arith, ap (live_in_all (other c.args.queue)) c.append_cleaned.ensures.left, c.in_ok-join_marked.ensures.few (other c.args.queue), c.requires.older, c.requires.newer)

pub returns-clause-ok : goal.returns-clause-ok
returns-clause-ok c = λ a b. both_ok c.args.queue c.args.newer.accessor.tables (regions_in c.args.self.now) c.args.newer.marks c.requires.older c.requires.newer c.join_marked.new.self.marks _ _ _ _
    c.append_cleaned.ensures.tables c.append_cleaned.ensures.left c.in_ok-join_marked.ensures.ok c.in_ok-join_marked.ensures.left c.in_ok-join_marked.ensures.few c.join_unmarked.result
    (regions_in c.join_unmarked.new.self) c.join_unmarked.ensures.ok (stand_runs c.args.queue (regions_in c.args.self.now) (regions_in c.args.newer) a b)

pub returns-clause-fault : goal.returns-clause-fault
returns-clause-fault c = λ a b. both_fault c.args.queue c.args.newer.accessor.tables (regions_in c.args.self.now) c.args.newer.marks c.requires.older c.requires.newer c.join_marked.new.self.marks _ _ _ _
    c.append_cleaned.ensures.tables c.append_cleaned.ensures.left c.in_ok-join_marked.ensures.ok c.in_ok-join_marked.ensures.left c.in_ok-join_marked.ensures.few c.join_unmarked.result
    c.join_unmarked.ensures.fault (stand_runs c.args.queue (regions_in c.args.self.now) (regions_in c.args.newer) a b)
