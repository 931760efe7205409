use Rattle.raft_contexts.proofs.Common.{◌≢◌, ◌++◌, [], sym, ap, subst, ◌∙◌, err_from_is_err_and, AllByRecursion, region_steps_of_wholes, regions_in, IsStepsFault, context_in, CanTakeEffect, Rewrite}
use Rattle.raft_contexts.proofs.ReadStateLemmas.{alone_of, merge_takes, wholes_fault, middle_of, middle_alone, join_fault, join_merged, join_read, merged_by}
use Rattle.raft_contexts.proofs.read_state.ReadState.merge.Goals as goal

pub apply_whole_groups-requires : goal.apply_whole_groups-requires
apply_whole_groups-requires c = subst (AllByRecursion CanTakeEffect) (sym c.in_ok-wholes.ensures.wholes)
    (merge_takes c.args.queue (context_in c.args.self.now) (context_in c.args.newer) c.requires.older c.requires.newer c.in_ok-check_neighbor.ensures.ok)

pub returns-in_err-apply_whole_groups-clause-fault : goal.returns-in_err-apply_whole_groups-clause-fault
returns-in_err-apply_whole_groups-clause-fault c =
    let whole = c.in_ok-wholes.ensures.wholes in
    let p = err_from_is_err_and c.from_residual-in_err-apply_whole_groups.result c.from_residual-in_err-apply_whole_groups.ensures.1 in
    rw (p.1, p.2) (wholes_fault c.args.queue (context_in c.args.self.now) (context_in c.args.newer) c.requires.older c.requires.newer c.in_ok-check_neighbor.ensures.ok
    (subst (λ ws. ws ≢ []) whole c.in_err-apply_whole_groups.ensures.none) _
    (subst (λ ws. IsStepsFault Rewrite (regions_in c.args.self.now.regions) (region_steps_of_wholes ws) c.in_err-apply_whole_groups.field-0.0) whole c.in_err-apply_whole_groups.ensures.wholes.fault))

pub join-requires-2-clause-older : goal.join-requires-2-clause-older
join-requires-2-clause-older c =
    let middle = middle_of c.args.queue c.args.self.now (context_in c.args.newer) _ c.apply_whole_groups.new.regions c.requires.older c.requires.newer
    c.in_ok-check_neighbor.ensures.ok c.in_ok-wholes.ensures.wholes c.in_ok-apply_whole_groups.ensures.wholes in
    middle_alone c.args.queue (context_in c.args.self.now) (context_in c.args.newer) (regions_in c.apply_whole_groups.new.regions) middle

pub join-requires-2-clause-newer : goal.join-requires-2-clause-newer
join-requires-2-clause-newer c = alone_of c.args.queue (context_in c.args.newer) c.requires.newer c.in_ok-check_neighbor.ensures.ok.newer

pub returns-in_err-join-clause-fault : goal.returns-in_err-join-clause-fault
returns-in_err-join-clause-fault c =
    let middle = middle_of c.args.queue c.args.self.now (context_in c.args.newer) _ c.apply_whole_groups.new.regions c.requires.older c.requires.newer
    c.in_ok-check_neighbor.ensures.ok c.in_ok-wholes.ensures.wholes c.in_ok-apply_whole_groups.ensures.wholes in
    let p = err_from_is_err_and c.from_residual-in_err-join.result c.from_residual-in_err-join.ensures.1 in
    rw (p.1, p.2) (join_fault c.args.queue (context_in c.args.self.now) (context_in c.args.newer) (regions_in c.apply_whole_groups.new.regions) middle _ c.in_err-join.ensures.fault)

pub returns-clause-regions : goal.returns-clause-regions
returns-clause-regions c =
    let middle = middle_of c.args.queue c.args.self.now (context_in c.args.newer) _ c.apply_whole_groups.new.regions c.requires.older c.requires.newer
    c.in_ok-check_neighbor.ensures.ok c.in_ok-wholes.ensures.wholes c.in_ok-apply_whole_groups.ensures.wholes in
    join_merged c.args.queue (context_in c.args.self.now) (context_in c.args.newer) (regions_in c.apply_whole_groups.new.regions) (regions_in c.join-2.new.self) middle c.in_ok-join.ensures.ok

pub returns-clause-history : goal.returns-clause-history
returns-clause-history c =
    let middle = middle_of c.args.queue c.args.self.now (context_in c.args.newer) _ c.apply_whole_groups.new.regions c.requires.older c.requires.newer
    c.in_ok-check_neighbor.ensures.ok c.in_ok-wholes.ensures.wholes c.in_ok-apply_whole_groups.ensures.wholes in
    join_read c.args.queue (context_in c.args.self.now) (context_in c.args.newer) _ (regions_in c.apply_whole_groups.new.regions) middle c.in_ok-join.ensures.ok
    (merged_by (context_in c.args.self.now) (context_in c.args.newer) _ c.in_ok-wholes.ensures.known
    (c.in_ok-join.ensures.cleaned ∙ ap (λ l. l ++ c.args.newer.regions.accessor.cleaned) c.in_ok-apply_whole_groups.ensures.wholes.cleaned)
    c.join_ranges-self.ensures)
    c.in_ok-join.ensures.other
