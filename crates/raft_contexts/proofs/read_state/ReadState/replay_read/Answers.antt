use Rattle.raft_contexts.proofs.Common.{Some, refl, ap, ◌∙◌, err_from_is_err_and, FileRange, joined_files, steps_of_items, event, ranges_shown, context_in}
use Rattle.raft_contexts.proofs.ReadStateLemmas.{may_follow, steps_of_read, lone_effect, effect_fault, refused, lone_taken}
use Rattle.raft_contexts.proofs.read_state.ReadState.replay_read.Goals as goal

pub returns-in_err-check_file : goal.returns-in_err-check_file
returns-in_err-check_file c =
    let p = err_from_is_err_and c.from_residual-in_err-check_file.result c.from_residual-in_err-check_file.ensures.1 in
    rw (p.1, p.2) (refused (event c.args.batch.now c.args.file) _ _ _ (c.in_err-check_file.ensures.fault c.args.batch.now))

pub apply_read_batch-requires-clause-in_file : goal.apply_read_batch-requires-clause-in_file
apply_read_batch-requires-clause-in_file c = c.if-not-is_lone_read.ensures.items refl

pub apply_read_batch-requires-clause-stands : goal.apply_read_batch-requires-clause-stands
apply_read_batch-requires-clause-stands c = steps_of_read c.args.file.queue (context_in c.args.self.now) c.requires c.in_ok-check_file.ensures.queue

pub returns-in_err-apply_read_batch : goal.returns-in_err-apply_read_batch
returns-in_err-apply_read_batch c =
    let p = err_from_is_err_and c.from_residual-in_err-apply_read_batch.result c.from_residual-in_err-apply_read_batch.ensures.1 in
    let e = event c.args.batch.now c.args.file in
    let old = context_in c.args.self.now in
    let next = may_follow (context_in c.args.self.now) (event c.args.batch.now c.args.file) c.in_ok-check_file.ensures.queue (c.in_ok-check_file.ensures.files c.args.batch.now)
    (c.if-not-is_lone_read.ensures.items refl) (c.if-not-is_lone_read.ensures.markers refl) in
    rw (p.1, p.2) (refused e _ _ _ (effect_fault old e c.args.file.queue (steps_of_items c.args.batch.now) (lone_effect old e (c.if-not-is_lone_read.ensures.marker refl)) c.requires next _ c.in_err-apply_read_batch.ensures.taken.fault))

pub returns : goal.returns
returns c =
    let next = may_follow (context_in c.args.self.now) (event c.args.batch.now c.args.file) c.in_ok-check_file.ensures.queue (c.in_ok-check_file.ensures.files c.args.batch.now)
    (c.if-not-is_lone_read.ensures.items refl) (c.if-not-is_lone_read.ensures.markers refl) in
    lone_taken c.args.self.now _ (event c.args.batch.now c.args.file) c.requires next (c.if-not-is_lone_read.ensures.marker refl)
    c.in_ok-apply_read_batch.ensures.taken.ok c.in_ok-apply_read_batch.ensures.taken.counts c.in_ok-apply_read_batch.ensures.other c.in_ok-apply_read_batch.ensures.taken.cleaned refl
    (c.join_ranges-self.ensures ∙ ap (λ (f : FileRange). joined_files (ranges_shown c.args.self.now.files) (Some f)) c.of_file.ensures)
