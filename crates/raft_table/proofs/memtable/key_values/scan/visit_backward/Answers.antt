use Rattle.raft_table.proofs.Facts.{Bool, of_calls, sym, ap, ◌∙◌, option_copied, CalledAtTwo, is_between, Entry, visit-stops, visit-goes, reverse-chosen-yes, reverse-chosen-no}
use Rattle.raft_table.proofs.KeyValueReads.{bytes_of}
use Rattle.raft_table.proofs.memtable.key_values.scan.visit_backward.Goals.{else-is_between-via-then-is_between+else-not-f, else-is_between-via-else-is_between}
use Rattle.raft_table.proofs.memtable.key_values.scan.visit_backward.Goals as goal

pub returns-then-not-f : goal.returns-then-not-f
returns-then-not-f g c =
    let called : CalledAtTwo g.F.FnMut c.loop-key.f c.in-Some.key.now.items c.in-Some.pair.now.value.items c.f.result c.f.new.self = record {
      first = c.as_slice-then-is_between.result;
      second = c.as_slice-then-is_between-2.result;
      shows = (c.as_slice-then-is_between.ensures.value, c.as_slice-then-is_between-2.ensures.value);
      called = c.f.ensures;
    } in
    let within = ap (is_between (option_copied c.args.start) (option_copied c.args.end)) (sym c.as_slice.ensures.value) ∙ sym c.is_between.ensures ∙ c.if-is_between.true in
    let first = reverse-chosen-yes bytes_of (λ (e : Entry). is_between (option_copied c.args.start) (option_copied c.args.end) e.0.items) (c.in-Some.key.now, c.in-Some.pair.now) c.next_back.new.self within in
    (c.f.new.self, c.loop-key.invariant.1 c.f.new.self (rw (c.in-Some.ensures.steps, first) (visit-stops (CalledAtTwo g.F.FnMut) _ _ _ _ _ _ called c.if-not-f.true)))

pub loop-key-preserved : goal.loop-key-preserved
loop-key-preserved g c =
    let test : Entry → Bool = λ e. is_between (option_copied c.args.start) (option_copied c.args.end) e.0.items in
    let tested = ap (is_between (option_copied c.args.start) (option_copied c.args.end)) (sym c.as_slice.ensures.value) ∙ sym c.is_between.ensures in
    elim c.else-is_between.branch [
      | else-is_between-via-then-is_between+else-not-f w ↦
          let called : CalledAtTwo g.F.FnMut c.loop-key.f c.in-Some.key.now.items c.in-Some.pair.now.value.items w.f.result w.f.new.self = record {
            first = w.as_slice-then-is_between.result;
            second = w.as_slice-then-is_between-2.result;
            shows = (w.as_slice-then-is_between.ensures.value, w.as_slice-then-is_between-2.ensures.value);
            called = w.f.ensures;
          } in
          let last_one = reverse-chosen-yes bytes_of test (c.in-Some.key.now, c.in-Some.pair.now) c.next_back.new.self (tested ∙ w.if-is_between.true) in
          rw w.f-is (search (of_calls), λ last visits. c.loop-key.invariant.1 last (rw (c.in-Some.ensures.steps, last_one) (visit-goes (CalledAtTwo g.F.FnMut) _ _ _ _ _ _ _ called w.if-not-f.false visits)))
      | else-is_between-via-else-is_between w ↦
          let passed = reverse-chosen-no bytes_of test (c.in-Some.key.now, c.in-Some.pair.now) c.next_back.new.self (tested ∙ w.if-is_between.false) in
          rw w.f-is (c.loop-key.invariant.0, λ last visits. c.loop-key.invariant.1 last (rw (c.in-Some.ensures.steps, passed) visits))
    ]
