use Rattle.raft_plain.proofs.Common.{◌++◌, refl, sym, subst, ap, ◌∙◌, arith, map, marker_in, HaveStatus, region_step_shown, RegionStep, tables_after, List, on_passed, effect_after, stretches_after, tables_shown, stretches_shown}
use Rattle.raft_plain.proofs.ReadLemmas.{batch_read, effect_unsound, order_unsound, status_unsound}
use Rattle.raft_plain.proofs.batches.apply_batch.Goals as goal

pub returns-clause-ok : goal.returns-clause-ok
returns-clause-ok c h read =
    let s = stretches_shown c.args.reading.waiting in
    let marker = c.in_ok-marker.ensures.marker ∙ ap (marker_in c.args.queue) c.as_slice.ensures in
    let effect = c.in_ok-waiting.ensures.effect ∙ (λ i. effect_after s (marker i) (c.in_ok-own.ensures i) c.args.file.seq) in
    batch_read c.args.queue c.args.reading h c.args.batch c.args.file read c.requires.queue c.requires.items
    (subst (HaveStatus c.args.queue) c.as_slice.ensures c.in_ok-marker.ensures.markers) (let f = c.if-file-reading.false in omega arith) _
    (ap (tables_after c.args.queue (tables_shown c.args.reading.regions)) (sym effect) ∙ ap (λ l. tables_after c.args.queue (tables_shown c.args.reading.regions) (map region_step_shown l)) (sym c.as_slice-2.ensures.value) ∙ c.in_ok-regions.ensures.ok)
    (c.in_ok-waiting.ensures.waiting ∙ (λ i. stretches_after s (marker i) (c.in_ok-own.ensures i) c.args.file.seq))
    (c.in_ok-steps.ensures ∙ ap (λ (l : List RegionStep). map region_step_shown c.args.reading.steps.items ++ l) effect) refl

pub returns-then-file-reading-clause-refused : goal.returns-then-file-reading-clause-refused
returns-then-file-reading-clause-refused c not_memory h read sound = order_unsound c.args.queue c.args.reading h c.args.batch c.args.file read c.if-file-reading.true sound

pub returns-in_err-marker-clause-refused : goal.returns-in_err-marker-clause-refused
returns-in_err-marker-clause-refused c =
    on_passed _ _ c.from_residual.ensures.1
    (λ not_memory h read. status_unsound c.args.queue c.args.reading h c.args.batch c.args.file read c.requires.queue
    (λ status. c.in_err-marker.ensures.refused not_memory (subst (HaveStatus c.args.queue) (sym c.as_slice.ensures) status)))

pub returns-in_err-regions-clause-refused : goal.returns-in_err-regions-clause-refused
returns-in_err-regions-clause-refused c =
    let s = stretches_shown c.args.reading.waiting in
    let marker = c.in_ok-marker.ensures.marker ∙ ap (marker_in c.args.queue) c.as_slice.ensures in
    let effect = c.in_ok-waiting.ensures.effect ∙ (λ i. effect_after s (marker i) (c.in_ok-own.ensures i) c.args.file.seq) in
    on_passed _ _ c.from_residual-in_err-regions.ensures.1
    (λ not_memory h read. effect_unsound c.args.queue c.args.reading h c.args.batch c.args.file read c.requires.queue
    (ap (tables_after c.args.queue (tables_shown c.args.reading.regions)) (sym effect) ∙ ap (λ l. tables_after c.args.queue (tables_shown c.args.reading.regions) (map region_step_shown l)) (sym c.as_slice-2.ensures.value) ∙ c.in_err-regions.ensures.refused not_memory))
