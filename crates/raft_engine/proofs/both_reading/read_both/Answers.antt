use Rattle.raft_engine.proofs.Common.{Append, Rewrite}
use Rattle.raft_engine.proofs.RecoveredLemmas.{few_files}
use Rattle.raft_engine.proofs.both_reading.read_both.Goals as goal

pub returns-then-stand : goal.returns-then-stand
returns-then-stand g c = λ version found known append_whole rewrite_whole.
    let a = c.in_ok-rewritten.ensures.appended version found append_whole in
    let r = c.in_ok-rewritten.ensures.rewritten version known rewrite_whole in
    record {
      appended = a;
      rewritten = record { history = r.history; held = r.held; told = r.told; stands = λ small. (r.stands small).0; exact = λ small apart. (r.exact small apart).0 };
      append_few = few_files Append version found c.args.append.now append_whole c.in_ok-check_few_bytes.ensures.ok;
      rewrite_few = few_files Rewrite version known c.args.rewrite.now rewrite_whole c.in_ok-check_few_bytes-2.ensures.ok;
      rows = λ small. (c.stand.ensures r.history (r.stands small).1).0 c.if-stand.true;
    }
