use Rattle.raft_engine.proofs.Common.{List, map, refl, sym, ap, ◌∙◌, item_of, marker_in, event}
use Rattle.raft_engine.proofs.GroupRowLemmas.{one_more}
use Rattle.raft_engine.proofs.group_rows.GroupRowsReplayMachine.replay.Goals as goal

pub returns-clause-stands : goal.returns-clause-stands
returns-clause-stands c = λ h small a.
    let marker = sym (c.in_ok-marker.ensures.ok ∙ ap (λ (l : List _). marker_in c.args.file_id.queue (map item_of l)) c.as_slice.ensures.value ∙ ap (marker_in c.args.file_id.queue) c.into_items-items.ensures) in
    one_more c.args.self.now c.of_batch.result c.join_newer.new.self c.join_newer.ensures h (event c.args.batch c.args.file_id) a
    (c.of_batch.ensures (event c.args.batch c.args.file_id) (record { marker = marker; seq = refl }))

pub returns-clause-exact : goal.returns-clause-exact
returns-clause-exact c = λ h small a.
    let marker = sym (c.in_ok-marker.ensures.ok ∙ ap (λ (l : List _). marker_in c.args.file_id.queue (map item_of l)) c.as_slice.ensures.value ∙ ap (marker_in c.args.file_id.queue) c.into_items-items.ensures) in
    one_more c.args.self.now c.of_batch.result c.join_newer.new.self c.join_newer.ensures h (event c.args.batch c.args.file_id) a
    (c.of_batch.ensures (event c.args.batch c.args.file_id) (record { marker = marker; seq = refl }))
