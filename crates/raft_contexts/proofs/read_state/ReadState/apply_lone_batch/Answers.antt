use Rattle.raft_contexts.proofs.Common.{Some, refl, ap, ◌∙◌, err_from_is_err_and, FileRange, joined_files, steps_of_items, event, ranges_shown, context_in}
use Rattle.raft_contexts.proofs.ReadStateLemmas.{lone_effect, effect_fault, refused, lone_taken}
use Rattle.raft_contexts.proofs.read_state.ReadState.apply_lone_batch.Goals as goal

pub returns-in_err-apply_items : goal.returns-in_err-apply_items
returns-in_err-apply_items c =
    let p = err_from_is_err_and c.from_residual.result c.from_residual.ensures.1 in
    let e = event c.args.batch c.args.file in
    let old = context_in c.args.self.now in
    rw (p.1, p.2) (refused e _ _ _ (effect_fault old e c.args.file.queue (steps_of_items c.args.batch) (lone_effect old e c.requires.without_marker) c.requires.history c.requires.next _ c.in_err-apply_items.ensures.fault))

pub returns : goal.returns
returns c = lone_taken c.args.self.now _ (event c.args.batch c.args.file) c.requires.history c.requires.next c.requires.without_marker
    c.in_ok-apply_items.ensures.ok c.in_ok-apply_items.ensures.counts c.in_ok-apply_items.ensures.other c.in_ok-apply_items.ensures.cleaned refl
    (c.join_ranges-self.ensures ∙ ap (λ (f : FileRange). joined_files (ranges_shown c.args.self.now.files) (Some f)) c.of_file.ensures)
