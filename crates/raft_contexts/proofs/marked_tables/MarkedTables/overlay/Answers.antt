use Rattle.raft_contexts.proofs.Common.{ap, arith, ◌∙◌, err_from_is_err_and, live_in_all, regions_in, Rewrite}
use Rattle.raft_contexts.proofs.OverlayingLemmas.{both_over, both_too_many, stand_overlaid, too_many_in}
use Rattle.raft_contexts.proofs.marked_tables.MarkedTables.overlay.Goals as goal

pub overlay_unmarked-requires : goal.overlay_unmarked-requires
overlay_unmarked-requires c = record { own = ap (live_in_all Rewrite) c.take_cleaned.ensures.left ∙ c.in_ok-overlay_marked.ensures.own_left }

pub returns-in_err-overlay_marked-clause-fault : goal.returns-in_err-overlay_marked-clause-fault
returns-in_err-overlay_marked-clause-fault c =
    let p = err_from_is_err_and c.from_residual.result c.from_residual.ensures.1 in
    let f = c.in_err-overlay_marked.ensures.fault in
    rw (p.1, p.2) (too_many_in f.0 c.args.self.now.accessor.tables c.args.appended.accessor.tables c.args.self.now.accessor.tables c.args.appended.accessor.tables _ (omega arith) f.1)

pub returns-clause-ok : goal.returns-clause-ok
returns-clause-ok c = λ a b. both_over c.args.appended.accessor.tables c.args.self.now.accessor.tables c.args.appended.marks _ _ _ _ c.take_cleaned.ensures.tables c.take_cleaned.ensures.left c.in_ok-overlay_marked.ensures.few
    c.overlay_unmarked.result
    c.requires.own c.in_ok-overlay_marked.ensures.own_left c.in_ok-overlay_marked.ensures.left c.in_ok-overlay_marked.ensures.ok c.overlay_unmarked.new.self.accessor.tables c.overlay_unmarked.ensures.ok
    (stand_overlaid (regions_in c.args.self.now) (regions_in c.args.appended) a b)

pub returns-clause-fault : goal.returns-clause-fault
returns-clause-fault c = both_too_many c.args.appended.accessor.tables c.args.self.now.accessor.tables c.args.appended.marks _ _ _ _ c.take_cleaned.ensures.tables c.take_cleaned.ensures.left c.in_ok-overlay_marked.ensures.few
    c.overlay_unmarked.result c.overlay_unmarked.ensures.fault
