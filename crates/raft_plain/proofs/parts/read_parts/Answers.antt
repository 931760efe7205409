use Rattle.raft_plain.proofs.Common.{◌<◌, ◌≤◌, List, refl, subst, length, arith, take, drop, ◌+◌, take_all, each_more, on_passed, none_replayed, replayed_more, item_taken, item_between, parts_refused, Part, PartHolds, PartsHold, HasReplayed, IsNothing, Sound, HasRead}
use Rattle.raft_plain.proofs.PartLemmas.{parts_read, stopped_among}
use Rattle.raft_plain.proofs.parts.read_parts.Goals as goal

pub loop-part-init : goal.loop-part-init
loop-part-init c = record {
  begins = c.new-reading.ensures c.args.queue;
  read = none_replayed (HasRead c.args.queue) (HasRead c.args.queue) _ c.new-reading.result refl;
}

pub loop-part-preserved : goal.loop-part-preserved
loop-part-preserved c =
    let inside : c.loop-part.part-index < length c.args.parts.now = let t = c.loop-part-test.true in omega arith in
    record {
      begins = c.loop-part.invariant.begins;
      read =
          let before = c.loop-part.invariant.read in
          let done = c.in_ok-reading.ensures.ok in
          replayed_more (HasRead c.args.queue) (HasRead c.args.queue) _ _ _ c.new-reading.result c.loop-part.reading c.in_ok-reading.reading before done
          (each_more PartHolds _ _ c.part-item.result _ _ (item_taken refl inside c.part-item.is) before.held done.held);
    }

pub returns-in_err-reading-clause-place : goal.returns-in_err-reading-clause-place
returns-in_err-reading-clause-place c =
    let inside : c.loop-part.part-index < length c.args.parts.now = let t = c.loop-part-test.true in omega arith in
    on_passed _ _ c.from_residual.ensures.1
    (λ not_memory. stopped_among c.args.queue c.new-reading.result c.loop-part.reading c.loop-part.invariant.begins c.args.parts.now
    (take c.loop-part.part-index c.args.parts.now) (drop (c.loop-part.part-index + 1) c.args.parts.now) c.part-item.result c.in_err-reading.field-0.0
    (item_between refl inside c.part-item.is) c.loop-part.invariant.read c.in_err-reading.ensures.place)

pub returns-in_err-reading-clause-refused : goal.returns-in_err-reading-clause-refused
returns-in_err-reading-clause-refused c =
    let inside : c.loop-part.part-index < length c.args.parts.now = let t = c.loop-part-test.true in omega arith in
    on_passed _ _ c.from_residual.ensures.1
    (λ not_memory. parts_refused IsNothing Sound c.args.parts.now c.in_err-reading.field-0.0
    (stopped_among c.args.queue c.new-reading.result c.loop-part.reading c.loop-part.invariant.begins c.args.parts.now
    (take c.loop-part.part-index c.args.parts.now) (drop (c.loop-part.part-index + 1) c.args.parts.now) c.part-item.result c.in_err-reading.field-0.0
    (item_between refl inside c.part-item.is) c.loop-part.invariant.read c.in_err-reading.ensures.place) not_memory)

pub returns-clause-ok : goal.returns-clause-ok
returns-clause-ok c =
    let q = c.args.queue in
    let whole : length c.args.parts.now ≤ c.loop-part.part-index = let t = c.loop-part-test.false in omega arith in
    parts_read q c.new-reading.result c.loop-part.reading c.loop-part.invariant.begins c.args.parts.now
    (subst (λ (parts : List Part). HasReplayed (PartsHold parts) (HasRead q) (HasRead q) c.new-reading.result c.loop-part.reading)
    (take_all c.loop-part.part-index c.args.parts.now whole) c.loop-part.invariant.read)
