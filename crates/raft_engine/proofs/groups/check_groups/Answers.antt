use Rattle.raft_engine.proofs.Common.{err_from_is_err_and, false≢true, [], refl, sym, subst, ◌∙◌, arith, take_all, CannotBeRead, each_more, unread_behind, none_replayed, replayed_more, item_between, item_taken, PartsHold}
use Rattle.raft_engine.proofs.GroupRowLemmas.{Summed, invalid, rows_held, rows_out}
use Rattle.raft_engine.proofs.groups.check_groups.Goals as goal

pub loop-segment-init : goal.loop-segment-init
loop-segment-init c = none_replayed Summed Summed _ c.new-rows.result refl

pub loop-segment-preserved : goal.loop-segment-preserved
loop-segment-preserved c =
    let done = c.in_ok-replay_segment.ensures.ok in
    let taken = item_taken {xs = c.args.segments.now} {ys = c.args.segments.now} {i = c.loop-segment.segment-index} {x = c.segment-item.result} refl (let t = c.loop-segment-test.true in omega arith) c.segment-item.is in
    replayed_more Summed Summed _ _ _ c.new-rows.result c.loop-segment.rows c.replay_segment.new.machine c.loop-segment.invariant done
    (each_more (λ s h. PartsHold s.items h) _ _ c.segment-item.result _ _ taken c.loop-segment.invariant.held done.held)

pub returns-in_err-replay_segment-clause-fault : goal.returns-in_err-replay_segment-clause-fault
returns-in_err-replay_segment-clause-fault c =
    let split = item_between {xs = c.args.segments.now} {ys = c.args.segments.now} {i = c.loop-segment.segment-index} {x = c.segment-item.result} refl (let t = c.loop-segment-test.true in omega arith) c.segment-item.is in
    let read = c.loop-segment.invariant in
    let p = err_from_is_err_and c.from_residual.result c.from_residual.ensures.1 in
    rw (p.1, p.2) (λ other h held small sound.
    let bad = unread_behind _ _ c.segment-item.result [] read.history (Summed c.loop-segment.rows) read.held (λ few. read.stands [] few c.new-rows.ensures) (c.in_err-replay_segment.ensures.refused other) in
    absurd ((subst CannotBeRead (sym split) bad).unsound h held small sound))

pub returns-then-stand-clause-ok : goal.returns-then-stand-clause-ok
returns-then-stand-clause-ok c =
    let all = take_all c.loop-segment.segment-index c.args.segments.now (let t = c.loop-segment-test.false in omega arith) in
    rows_held _ _ all _ c.loop-segment.rows c.new-rows.ensures c.loop-segment.invariant (λ h summed. (c.stand.ensures h summed).0 c.if-stand.true)

pub returns-clause-fault : goal.returns-clause-fault
returns-clause-fault c =
    let all = take_all c.loop-segment.segment-index c.args.segments.now (let t = c.loop-segment-test.false in omega arith) in
    λ other. rows_out _ _ all _ c.loop-segment.rows c.new-rows.ensures c.loop-segment.invariant (λ h summed rows. false≢true (sym c.if-stand.false ∙ (c.stand.ensures h summed).1 rows)) _ (invalid _ _ c.invalid_argument.ensures other)
