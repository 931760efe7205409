use Rattle.raft_reading.proofs.Common.{◌≡◌, ◌<◌, ◌∷◌, [], ◌++◌, ℕ, List, length, drop, sym, ap, subst, arith, length-drop, HasHeader}
use Rattle.raft_reading.proofs.PieceLemmas.{headers_more}
use Rattle.raft_reading.proofs.file_pieces.whole_batches_len.Goals as goal

pub returns-in_default-clause-last : goal.returns-in_default-clause-last
returns-in_default-clause-last c offset len h =
    let left : c.split_at.result.1.now ≡ drop c.loop-len.at c.args.bytes.now = c.split_at.ensures.back in
    subst (λ (xs : List ℕ). length xs < len) left (c.in_default.ensures.none offset len (subst (λ (xs : List ℕ). HasHeader xs offset len) (sym left) h))

pub loop-len-preserved : goal.loop-len-preserved
loop-len-preserved c =
    let at = c.loop-len.at in
    let bytes = c.args.bytes.now in
    let read = c.in-Some.ensures in
    let left : c.split_at.result.1.now ≡ drop at bytes = c.split_at.ensures.back in
    let header = subst (λ (xs : List ℕ). HasHeader xs read.header.0 c.in-Some.len) left read.header.1 in
    record {
      inside = omega (arith, read.whole, ap length left, length-drop at bytes, c.loop-len.invariant.inside);
      led = (c.loop-len.invariant.led.0 ++ c.in-Some.len ∷ [], headers_more bytes 0 at c.in-Some.len c.loop-len.invariant.led.0 c.loop-len.invariant.led.1 (read.header.0, header));
    }
