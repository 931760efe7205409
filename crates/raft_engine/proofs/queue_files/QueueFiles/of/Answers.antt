use Rattle.raft_engine.proofs.Common.{◌∷◌, [], map, ap, ◌∙◌, sym, map-append, take_all, file_shown, numbers}
use Rattle.raft_engine.proofs.queue_files.QueueFiles.of.Goals as goal

pub returns-clause-ok : goal.returns-clause-ok
returns-clause-ok c = let cases = rw c.in-Some.is at c.split_last.ensures.cases in record {
  closed = map file_shown c.in-Some.rest.now;
  bytes = c.in-Some.last.now.1.items;
  split = ap (map file_shown) (sym c.deref.ensures.value ∙ cases.0) ∙ map-append file_shown c.in-Some.rest.now (c.in-Some.last.now ∷ []);
  have = c.loop-seq.invariant ∙ ap (λ xs. numbers (map file_shown xs)) (take_all c.loop-seq.seq-index c.in-Some.rest.now c.loop-seq-test.false);
  ends = c.len.ensures ∙ c.in-Some.last.now.1.ok.0;
}
