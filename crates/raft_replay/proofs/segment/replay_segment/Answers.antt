use Rattle.raft_replay.proofs.Common.{on_passed, ◌≡◌, ◌<◌, refl, length, ap, ◌∙◌, subst, arith, IfErr-weaker, take_all, LogFileContext, Part, part_of, HasReplayed, IsStoodFor, StopsByFault}
use Rattle.raft_replay.proofs.Words.{PartHolds, PartsHold}
use Rattle.raft_replay.proofs.MachineOrderLemmas.{each_more}
use Rattle.raft_replay.proofs.ReplayedLemmas.{none_replayed, replayed_more, replayed_as}
use Rattle.raft_replay.proofs.SegmentLemmas.{item_taken, item_between}
use Rattle.raft_replay.proofs.StopLemmas.{stopped_among, parts_refused}
use Rattle.raft_replay.proofs.segment.replay_segment.Goals as goal

-- the bytes that are lent are those of the part
same : (file context : LogFileContext) (part : Part) (offset : _) (bytes : _) → file ≡ context → context.id ≡ part.id → context.version ≡ part.version → offset ≡ part.offset → bytes ≡ part.bytes → part_of file offset bytes ≡ part
same file context part offset bytes is id version at held =
    ap (λ (f : LogFileContext). part_of f offset bytes) is ∙ (λ i. record { id = id i; version = version i; offset = at i; bytes = held i })

pub loop-part-init : goal.loop-part-init
loop-part-init g c = none_replayed g.M.ReplayMachine.stands_for g.M.ReplayMachine.stands_exactly _ c.args.machine.now refl

pub loop-part-preserved : goal.loop-part-preserved
loop-part-preserved g c =
    let read = same _ _ c.part-item.result _ _ c.new-log.ensures c.id.ensures c.version.ensures c.offset.ensures.value c.bytes.ensures in
    let done = subst (λ (p : Part). HasReplayed (PartHolds p) g.M.ReplayMachine.stands_for g.M.ReplayMachine.stands_exactly c.loop-part.machine c.replay_bytes.new.machine) read c.in_ok-replay_bytes.ensures.ok in
    let inside : c.loop-part.part-index < length c.deref-part-items.result.now = let t = c.loop-part-test.true in omega arith in
    replayed_more g.M.ReplayMachine.stands_for g.M.ReplayMachine.stands_exactly _ _ _ c.args.machine.now c.loop-part.machine c.replay_bytes.new.machine c.loop-part.invariant done
    (each_more PartHolds _ _ c.part-item.result _ _ (item_taken c.deref-part-items.ensures.value inside c.part-item.is) c.loop-part.invariant.held done.held)

pub returns-clause-ok : goal.returns-clause-ok
returns-clause-ok g c =
    let all = take_all c.loop-part.part-index c.args.segment.now.items (let e = ap length c.deref-part-items.ensures.value in let t = c.loop-part-test.false in omega arith) in
    replayed_as g.M.ReplayMachine.stands_for g.M.ReplayMachine.stands_exactly _ _ c.args.machine.now c.loop-part.machine (λ h. subst (λ l. PartsHold l h) all) c.loop-part.invariant

pub returns-in_err-replay_bytes-clause-place : goal.returns-in_err-replay_bytes-clause-place
returns-in_err-replay_bytes-clause-place g c =
    let e = c.in_err-replay_bytes.field-0.0 in
    let read = same _ _ c.part-item.result _ _ c.new-log.ensures c.id.ensures c.version.ensures c.offset.ensures.value c.bytes.ensures in
    let stops = subst (λ (p : Part). StopsByFault (g.M.ReplayMachine.stands_for c.loop-part.machine) (IsStoodFor g.M.ReplayMachine.stands_for) p e) read c.in_err-replay_bytes.ensures.place in
    on_passed _ _ c.from_residual.ensures.1
    (stopped_among g.M.ReplayMachine.stands_for g.M.ReplayMachine.stands_exactly c.args.machine.now c.loop-part.machine (IsStoodFor g.M.ReplayMachine.stands_for) c.args.segment.now.items _ _ c.part-item.result e
    c.loop-part.invariant (item_between c.deref-part-items.ensures.value (let t = c.loop-part-test.true in omega arith) c.part-item.is) stops)

pub returns-in_err-replay_bytes-clause-refused : goal.returns-in_err-replay_bytes-clause-refused
returns-in_err-replay_bytes-clause-refused g c =
    IfErr-weaker c.from_residual.result _ _ (λ e. parts_refused (g.M.ReplayMachine.stands_for c.args.machine.now) (IsStoodFor g.M.ReplayMachine.stands_for) c.args.segment.now.items e)
    (returns-in_err-replay_bytes-clause-place g c)
