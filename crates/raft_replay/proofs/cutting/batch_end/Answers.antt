use Rattle.raft_replay.proofs.Common.{◌≡◌, ◌+◌, ◌≤◌, ℕ, List, length, drop, ap, ◌∙◌, subst, arith, length-drop, HasHeader}
use Rattle.raft_replay.proofs.CutPartLemmas.{meet_first, meet_next}
use Rattle.raft_replay.proofs.cutting.batch_end.Goals as goal

pub loop-at-init : goal.loop-at-init
loop-at-init c = record { inside = omega arith; met = meet_first c.args.part.now }

pub loop-at-preserved : goal.loop-at-preserved
loop-at-preserved c =
    let read = c.in_ok-at.ensures in
    let at = c.loop-at.at in
    let bytes = c.args.part.now.bytes in
    let left : c.split_at.result.1.now ≡ drop at bytes = c.split_at.ensures.back ∙ ap (drop at) c.bytes-bytes.ensures in
    let header = subst (λ (xs : List ℕ). HasHeader xs read.header.0 c.in_ok-at.field-0) left read.header.1 in
    let inside : at + c.in_ok-at.field-0 ≤ length bytes =
    omega (arith, read.whole, ap length left, length-drop at bytes, c.loop-at.invariant.inside) in
    record { inside = inside; met = meet_next c.args.part.now at c.in_ok-at.field-0 inside read.header.0 read.some header c.loop-at.invariant.met }
