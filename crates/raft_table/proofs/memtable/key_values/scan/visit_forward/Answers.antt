use Rattle.raft_table.proofs.Facts.{sym, ap, ◌∙◌, option_copied, CalledAtTwo, is_between, Entry, visit-stops, chosen-yes}
use Rattle.raft_table.proofs.KeyValueReads.{bytes_of}
use Rattle.raft_table.proofs.memtable.key_values.scan.visit_forward.Goals as goal

pub returns-then-not-f : goal.returns-then-not-f
returns-then-not-f g c =
    let called : CalledAtTwo g.F.FnMut c.loop-key.f c.in-Some.key.now.items c.in-Some.pair.now.value.items c.f.result c.f.new.self = record {
      first = c.as_slice-then-is_between.result;
      second = c.as_slice-then-is_between-2.result;
      shows = (c.as_slice-then-is_between.ensures.value, c.as_slice-then-is_between-2.ensures.value);
      called = c.f.ensures;
    } in
    let within = ap (is_between (option_copied c.args.start) (option_copied c.args.end)) (sym c.as_slice.ensures.value) ∙ sym c.is_between.ensures ∙ c.if-is_between.true in
    let first = chosen-yes bytes_of (λ (e : Entry). is_between (option_copied c.args.start) (option_copied c.args.end) e.0.items) (c.in-Some.key.now, c.in-Some.pair.now) c.next.new.self within in
    (c.f.new.self, c.loop-key.invariant.1 c.f.new.self (rw (c.in-Some.ensures.steps, first) (visit-stops (CalledAtTwo g.F.FnMut) _ _ _ _ _ _ called c.if-not-f.true)))
