use Rattle.raft_contexts.proofs.Common.{Some, ap, ◌∙◌, err_from_is_err_and, FileRange, region_steps_or, option_map, joined_files, steps_of_items, event, ranges_shown, context_in, whole_shown, Rewrite}
use Rattle.raft_contexts.proofs.ReadStateLemmas.{group_effect, effect_fault, refused, group_takes, group_taken}
use Rattle.raft_contexts.proofs.read_state.ReadState.add_group_batch.Goals as goal

pub apply_group_if_whole-requires : goal.apply_group_if_whole-requires
apply_group_if_whole-requires c = group_takes (context_in c.args.self.now) (event c.args.batch c.args.file) c.args.id c.args.status c.in_ok-items.items _ c.requires.history c.requires.next c.requires.with_marker
    (c.in_ok-items.ensures ∙ ap steps_of_items c.into_items.ensures) c.in_ok-whole.ensures.whole

pub returns-in_err-apply_group_if_whole : goal.returns-in_err-apply_group_if_whole
returns-in_err-apply_group_if_whole c =
    let p = err_from_is_err_and c.from_residual-in_err-apply_group_if_whole.result c.from_residual-in_err-apply_group_if_whole.ensures.1 in
    let e = event c.args.batch c.args.file in
    let old = context_in c.args.self.now in
    let w = option_map whole_shown c.in_ok-whole.whole in
    rw (p.1, p.2) (refused e _ _ _ (effect_fault old e Rewrite (region_steps_or w)
    (group_effect old e c.args.id c.args.status c.in_ok-items.items w c.requires.with_marker (c.in_ok-items.ensures ∙ ap steps_of_items c.into_items.ensures) c.in_ok-whole.ensures.whole)
    c.requires.history c.requires.next _ c.in_err-apply_group_if_whole.ensures.wholes.fault))

pub returns : goal.returns
returns c = group_taken c.args.self.now _ (event c.args.batch c.args.file) c.args.id c.args.status c.in_ok-items.items (option_map whole_shown c.in_ok-whole.whole) c.requires.history c.requires.next c.requires.with_marker
    (c.in_ok-items.ensures ∙ ap steps_of_items c.into_items.ensures) c.in_ok-whole.ensures.whole c.in_ok-apply_group_if_whole.ensures.wholes.taken c.in_ok-apply_group_if_whole.ensures.counts
    c.in_ok-apply_group_if_whole.ensures.wholes.other c.in_ok-apply_group_if_whole.ensures.wholes.cleaned c.in_ok-whole.ensures.known
    (c.join_ranges-self.ensures ∙ ap (λ (f : FileRange). joined_files (ranges_shown c.args.self.now.files) (Some f)) c.of_file.ensures)
