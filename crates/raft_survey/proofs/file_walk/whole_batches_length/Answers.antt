use Rattle.raft_survey.proofs.Common.{◌≡◌, ◌<◌, ◌≤◌, ℕ, List, length, drop, ap, subst, arith, length-drop, HasHeader}
use Rattle.raft_survey.proofs.WalkedLemmas.{batch_more}
use Rattle.raft_survey.proofs.file_walk.whole_batches_length.Goals as goal

pub loop-len-preserved : goal.loop-len-preserved
loop-len-preserved c =
    let at = c.loop-len.at in
    let bytes = c.args.bytes.now in
    let read = c.in-Some.ensures in
    let left : c.split_at.result.1.now ≡ drop at bytes = c.split_at.ensures.back in
    let header = subst (λ (xs : List ℕ). HasHeader xs read.header.0 c.in-Some.len) left read.header.1 in
    let whole : c.in-Some.len ≤ length (drop at bytes) = subst (λ (xs : List ℕ). c.in-Some.len ≤ length xs) left read.whole in
    record {
      inside = omega (arith, read.whole, ap length left, length-drop at bytes, c.loop-len.invariant.inside);
      whole = batch_more bytes at read.header.0 c.in-Some.len c.loop-len.invariant.inside c.loop-len.invariant.whole header whole;
    }

pub returns-in_default-clause-none : goal.returns-in_default-clause-none
returns-in_default-clause-none c = record { none = subst (λ (xs : List ℕ). (offset len : ℕ) → HasHeader xs offset len → length xs < len) c.split_at.ensures.back c.in_default.ensures.none }
