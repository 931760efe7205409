use Rattle.raft_opening.proofs.Common.{◌∙◌, ap, inl, inr, refl, nil_from_length, take_all, numbers_of}
use Rattle.raft_opening.proofs.sized_files.known_of.Goals as goal

pub returns-in_default-clause-ok : goal.returns-in_default-clause-ok
returns-in_default-clause-ok c = inl (record {
  none = nil_from_length c.args.sizes.now (rw c.in_default.is at c.split_last.ensures.cases);
  have = c.first.ensures.closed;
  seq = c.first.ensures.seq;
  len = c.first.ensures.len;
})

pub returns-clause-ok : goal.returns-clause-ok
returns-clause-ok c = inr (record {
  closed = c.in-Some.rest.now;
  last = c.in-Some.last.now;
  split = (rw c.in-Some.is at c.split_last.ensures.cases).0;
  have = c.loop-file.invariant ∙ ap numbers_of (take_all c.loop-file.file-index c.in-Some.rest.now c.loop-file-test.false);
  seq = refl;
  len = refl;
})
