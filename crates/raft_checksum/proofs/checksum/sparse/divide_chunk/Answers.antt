-- A new byte of the quotient changes none before it.
use Rattle.std.proofs.Common.{◌+◌, ◌<◌, ◌∙◌, arith, length}
use Rattle.raft_checksum.proofs.QuotientLemmas.{quotient_more, write_behind}
use Rattle.raft_checksum.proofs.checksum.sparse.divide_chunk.Goals as goal

pub loop-k-preserved : goal.loop-k-preserved
loop-k-preserved c =
    let room : c.loop-k.k + 300 < length c.loop-k.quotient = omega arith in
    record {
      quotient = quotient_more c.args.bytes.now c.loop-k.quotient c.loop-k.k room c.loop-k.invariant.quotient;
      before = λ k h. write_behind c.loop-k.quotient (c.loop-k.k + 300) _ k (omega arith) ∙ c.loop-k.invariant.before k h;
    }

pub returns-clause-quotient : goal.returns-clause-quotient
returns-clause-quotient c = λ k h. c.loop-k.invariant.quotient k (omega arith)

pub returns-clause-before : goal.returns-clause-before
returns-clause-before c = c.loop-k.invariant.before
