use Rattle.raft_accessor.proofs.Common.{[], ◌++◌, append-nil, refl, sym, ap, ◌∙◌, err_from_is_err_and, with_neighbor, IsFaultBeside}
use Rattle.std.specs.FinMap as finite
use Rattle.raft_accessor.proofs.MergeLemmas.{items-apart, own-next, more-merged, refuses-first, leaves-first, leaves-others, merge-refused, all-merged}
use Rattle.raft_accessor.proofs.accessor.MemTableAccessor.merge_slot.Goals as goal

pub loop-id-init : goal.loop-id-init
loop-id-init c = ([], refl, λ q. refl, refl)

pub merge_table-requires : goal.merge_table-requires
merge_table-requires c = own-next c.loop-id.invariant.0 _ _ _ _ _ (c.loop-id.invariant.1 ∙ c.into_iter-id-iterator.ensures.into_iter_gives) c.in-Some.ensures.steps c.into_entries-id-items.ensures.once c.into_entries-id-items.ensures.own

pub loop-id-preserved : goal.loop-id-preserved
loop-id-preserved c =
    let at = c.loop-id.invariant in
    let more = more-merged (with_neighbor c.args.kind) c.args.self.now.tables c.loop-id.self.tables c.merge_table.new.self.tables _ at.0 _ _ _ _ c.in-Some.ensures.steps at.1
    (items-apart at.0 _ _ (at.1 ∙ c.into_iter-id-iterator.ensures.into_iter_gives) c.into_entries-id-items.ensures.once) at.2 c.in_ok-merge_table.ensures.ok c.merge_table.ensures.others in
    (more.0, more.1, more.2, c.merge_table.ensures.cleaned ∙ at.3)

pub returns-in_err-merge_table : goal.returns-in_err-merge_table
returns-in_err-merge_table c =
    let p = err_from_is_err_and c.from_residual.result c.from_residual.ensures.1 in
    let at = c.loop-id.invariant in
    let m = c.loop-id.self.tables in
    let new = c.merge_table.new.self in
    let is = c.in-Some.ensures.steps in
    let split = at.1 ∙ c.into_iter-id-iterator.ensures.into_iter_gives in
    rw (p.1, p.2) (merge-refused c.args.kind c.args.self.now new m c.args.newer at.0 _ (items-apart at.0 _ _ split c.into_entries-id-items.ensures.once) at.2
    (ap (λ es. finite.from_entries es) split ∙ c.into_entries-id-items.ensures.entries) _ _
    (refuses-first (IsFaultBeside c.args.kind new.counts) m _ _ _ _ _ is c.in_err-merge_table.ensures.fault)
    (λ k. leaves-first (with_neighbor c.args.kind) m new.tables _ _ _ _ is (c.in_err-merge_table.ensures.err k) c.merge_table.ensures.others)
    (leaves-others (with_neighbor c.args.kind) m new.tables _ _ _ _ is c.merge_table.ensures.others) (c.merge_table.ensures.cleaned ∙ at.3))

pub returns : goal.returns
returns c =
    let at = c.loop-id.invariant in
    let split = sym (append-nil at.0) ∙ ap (λ l. at.0 ++ l) (sym c.in-None.ensures.steps.0) ∙ at.1 ∙ c.into_iter-id-iterator.ensures.into_iter_gives in
    all-merged c.args.kind c.args.self.now c.loop-id.self c.args.newer at.0 at.2 (ap (λ es. finite.from_entries es) split ∙ c.into_entries-id-items.ensures.entries) at.3
